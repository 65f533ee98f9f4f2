-- `cursors::walk::gather` meets its contract. Assumes nothing.
use mathlib.Core.Path.{refl, sym, ap, ◌∙◌}
use native.Mathlib.Omega.{arith}
use Rattle.attrs.specs.Packed.{env_of}
use Rattle.cursors.specs.Records.{records_of}
use Rattle.cursors.specs.Cursors.{rest}
use Rattle.cursors.proofs.Spots.{Stepped, steps}
use Rattle.cursors.proofs.Opens.{opened-start, open_out, open-stop, open_turn}
use Rattle.cursors.proofs.walk.gather.Goals as goal
use Rattle.cursors.proofs.walk.gather.Goals.{In-loop-s}

-- the place stands, and there is an item
stepped : (c : In-loop-s) → Stepped c.args.items.now c.loop-s.s
stepped c = steps _ _ c.loop-s.invariant.0 c.loop-s-test.true

pub loop-s-init : goal.loop-s-init
loop-s-init c =
    let from = c.args.from in (
      c.requires,
      (λ a g gs long.
          record {
            first = g;
            others = gs;
            long = long;
            kept = λ _. refl;
            same = ap (records_of a) (opened-start c.args.joined g gs (env_of from.force) (rest c.args.items.now from));
          }),
      omega arith,
      omega arith,
    )

pub bounds-items-s : goal.bounds-items-s
bounds-items-s c = (stepped (goal.at.bounds-items-s c).In-loop-s).below

pub returns-then-ends : goal.returns-then-ends
returns-then-ends c =
    let unpacked = c.unpack-it.ensures in
    let ends = rw unpacked at (sym c.ends.ensures ∙ c.if-ends.true) in
    record {
      stands = c.loop-s.invariant.0;
      run = λ a g gs long. open-stop _ _ _ a _ _ c.requires.plain c.loop-s.invariant.0 c.loop-s-test.true ends (c.loop-s.invariant.1 a g gs long);
      fewer = c.loop-s.invariant.2;
      on = c.loop-s.invariant.3;
    }

pub past-s-requires-clause-content_bound : goal.past-s-requires-clause-content_bound
past-s-requires-clause-content_bound c = rw c.unpack-it.ensures (stepped (goal.at.past-s-requires-clause-content_bound c).In-loop-s).sum

pub loop-s-preserved : goal.loop-s-preserved
loop-s-preserved c =
    let unpacked = c.unpack-it.ensures in
    let goes_on = rw unpacked at (sym c.ends.ensures ∙ c.if-ends.false) in
    rw (c.past-s.ensures, unpacked) (
      (stepped (goal.at.loop-s-preserved c).In-loop-s).stands,
      (λ a g gs long. open_turn _ _ _ a _ _ c.requires.plain c.loop-s.invariant.0 c.loop-s-test.true goes_on (c.loop-s.invariant.1 a g gs long)),
      omega (arith, c.loop-s.invariant.2),
      omega (arith, c.loop-s.invariant.3),
    )

pub returns : goal.returns
returns c =
    record {
      stands = c.loop-s.invariant.0;
      run = λ a g gs long. open_out _ _ _ a _ _ c.requires.plain (omega (arith, c.loop-s-test.false)) (c.loop-s.invariant.1 a g gs long);
      fewer = c.loop-s.invariant.2;
      on = c.loop-s.invariant.3;
    }

-- `cursors::walk::skip` meets its contract. Assumes nothing.
use mathlib.Core.Path.{sym, ◌∙◌}
use native.Mathlib.Omega.{arith}
use Rattle.cursors.proofs.Spots.{Stepped, steps, skip_turn}
use Rattle.cursors.proofs.walk.skip.Goals as goal
use Rattle.cursors.proofs.walk.skip.Goals.{In-loop-s}

-- the place stands, and there is an item
stepped : (c : In-loop-s) → Stepped c.args.items.now c.loop-s.s
stepped c = steps _ _ c.loop-s.invariant.0 c.loop-s-test.true

pub bounds-items-s : goal.bounds-items-s
bounds-items-s c = (stepped (goal.at.bounds-items-s c).In-loop-s).below

pub past-s-requires-clause-content_bound : goal.past-s-requires-clause-content_bound
past-s-requires-clause-content_bound c = rw c.unpack-it.ensures (stepped (goal.at.past-s-requires-clause-content_bound c).In-loop-s).sum

pub loop-s-preserved : goal.loop-s-preserved
loop-s-preserved c =
    let unpacked = c.unpack-it.ensures in
    let passes = rw unpacked at (sym c.passes.ensures ∙ c.if-not-passes.false) in
    rw (c.past-s.ensures, unpacked) (
      (stepped (goal.at.loop-s-preserved c).In-loop-s).stands,
      (λ j. c.loop-s.invariant.1 j ∙ skip_turn j _ _ c.loop-s.invariant.0 c.loop-s-test.true passes),
      omega (arith, c.loop-s.invariant.2),
    )

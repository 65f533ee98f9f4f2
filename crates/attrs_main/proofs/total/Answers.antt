-- `attrs_main::total` meets its contract: a walk over the keys.
use mathlib.Core.Path.{◌≡◌, ap, ◌∙◌}
use native.Mathlib.Omega.{arith}
use borrow.Author.Rules.{rules}
use lib.ListN.{length}
use Rattle.sets.specs.Bits.{keys_of}
use Rattle.attrs.specs.Packed.{env_of}
use Rattle.sets.proofs.Keys.{keys_none, keys-le}
use Rattle.attrs.proofs.Slots.{part_all, Turn, turn-lowest, present-keys}
use Rattle.attrs_main.specs.Sum.{sum_of}
use Rattle.attrs_main.proofs.total.Goals as goal
use Rattle.attrs_main.proofs.total.Goals.{In-Some}

-- the key of a turn
met : (c : In-Some) → Turn c.args.a.mask c.loop-key.key-iterator.left c.in-Some.key c.next.new.self.left
met c = let s = c.in-Some.ensures.steps in turn-lowest _ _ c.loop-key.invariant.0 s.0 s.1

pub loop-key-init : goal.loop-key-init
loop-key-init c =
    let all : c.into_iter-key-iterator.result.left ≡ c.args.a.mask = cc in
    rw all (part_all _ (search rules), omega arith, omega (arith, keys-le c.args.a.mask (search rules)))

pub loop-key-preserved : goal.loop-key-preserved
unfolding sum_of
loop-key-preserved c =
    let x = met (goal.at.loop-key-preserved c).In-Some in
    let e = env_of c.args.a in
    (x.rest, omega (arith, ap (sum_of e) x.first), omega (arith, ap length x.first))

pub returns : goal.returns
unfolding sum_of
returns c =
    let e = env_of c.args.a in
    let z = (c.in-None.ensures.steps).0 in
    omega (arith, ap (sum_of e) (ap keys_of z ∙ keys_none), ap (sum_of e) (present-keys c.args.a))

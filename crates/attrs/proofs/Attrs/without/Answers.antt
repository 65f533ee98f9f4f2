-- `attrs::Attrs::without` meets its contract.
use mathlib.Core.Path.{◌≡◌, sym, ◌∙◌}
use Prim.Native.Nat.{◌<◌}
use native.Mathlib.Omega.{arith}
use Rattle.sets.specs.Bits.{bit}
use Rattle.sets.proofs.Bits.{bit_le}
use Rattle.attrs.proofs.Stores.{put-gone, none-gone, there}
use borrow.Author.Rules.{rules}
use Rattle.attrs.proofs.Attrs.without.Goals as goal
use Rattle.attrs.proofs.Attrs.without.Goals.{Else-not-has}

-- the key is there, so it is a key of the mask
found : (c : Else-not-has) → (c.args.key < 16) × (bit c.args.self.mask c.args.key ≡ 1)
found c = there _ _ (sym c.has.ensures ∙ c.if-not-has.false)

pub returns-then-not-has : goal.returns-then-not-has
returns-then-not-has c = none-gone _ _ (search rules) (sym c.has.ensures ∙ c.if-not-has.true)

pub bit_of-requires : goal.bit_of-requires
bit_of-requires c = (found (goal.at.bit_of-requires c).Else-not-has).0

pub overflow_sub-out : goal.overflow_sub-out
overflow_sub-out c = omega (arith, bit_le _ _ (found (goal.at.overflow_sub-out c).Else-not-has).1)

pub bounds-out-key : goal.bounds-out-key
bounds-out-key c = (found (goal.at.bounds-out-key c).Else-not-has).0

pub returns : goal.returns
returns c =
    let k = found (goal.at.returns c).Else-not-has in
    rw c.bit_of.ensures (put-gone _ _ (search rules) k.0 k.1)

-- `sets::rest` meets its contract.
use mathlib.Core.Path.{ap}
use Prim.Native.Nat.{ℕ, ◌-◌}
use native.Mathlib.Omega.{arith}
use borrow.Author.Rules.{rules}
use lib.Count.{count_trailing_zeros}
use Rattle.sets.proofs.Bits.{Low, low, rest-of, rest-none}
use Rattle.sets.proofs.rest.Goals as goal
use Rattle.sets.proofs.rest.Goals.{Else-mask-eq0}

first : (c : Else-mask-eq0) → Low c.args.mask (count_trailing_zeros 16 c.args.mask)
first c = low c.args.mask (search rules) c.if-mask-eq0.false

pub returns-then-mask-eq0 : goal.returns-then-mask-eq0
returns-then-mask-eq0 c = rest-none _ c.if-mask-eq0.true

pub bit_of-requires : goal.bit_of-requires
bit_of-requires c = (first (goal.at.bit_of-requires c).Else-mask-eq0).lt

pub overflow_sub-result : goal.overflow_sub-result
overflow_sub-result c = omega (arith, (first (goal.at.overflow_sub-result c).Else-mask-eq0).le)

pub returns : goal.returns
returns c = rest-of _ _ (first (goal.at.returns c).Else-mask-eq0) (ap (λ (p : ℕ). c.args.mask - p) c.bit_of.ensures)

-- `sets::set_bit` meets its contract.
use native.Mathlib.Omega.{arith}
use borrow.Author.Rules.{rules}
use Rattle.sets.proofs.Bits.{bit-set-lt, set_already, set_now}
use Rattle.sets.proofs.set_bit.Goals as goal

pub overflow_add-result : goal.overflow_add-result
overflow_add-result c =
    let a = c.args in
    omega (arith, bit-set-lt 16 a.mask a.key (search rules) (search rules) (omega arith))

pub returns-then-bit_at-eq0 : goal.returns-then-bit_at-eq0
returns-then-bit_at-eq0 c = rw c.bit_of.ensures (set_now _ _ (omega arith))

pub returns-else-bit_at-eq0 : goal.returns-else-bit_at-eq0
returns-else-bit_at-eq0 c = set_already _ _ (omega arith)

-- `attrs::Attrs::has` meets its contract.
use mathlib.Core.Path.{sym, ap, ◌∙◌}
use Prim.Native.Nat.{ℕ}
use lib.Dec.{eqb}
use Rattle.attrs.proofs.Says.{says_past}
use Rattle.attrs.proofs.Slots.{has-bit}
use borrow.Author.Rules.{rules}
use Rattle.attrs.proofs.Attrs.has.Goals as goal

pub returns-else-key-lt-KEYS : goal.returns-else-key-lt-KEYS
returns-else-key-lt-KEYS c = search (rules, says_past)

pub returns-then-key-lt-KEYS : goal.returns-then-key-lt-KEYS
returns-then-key-lt-KEYS c = ap (λ (x : ℕ). eqb x 1) c.bit_at.ensures.is ∙ sym (has-bit _ _ (search rules))

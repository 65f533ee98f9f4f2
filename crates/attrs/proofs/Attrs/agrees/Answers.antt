-- `attrs::Attrs::agrees` meets its contract.
use mathlib.Core.Path.{sym, ap, ◌∙◌}
use Prim.Native.Nat.{ℕ}
use lib.Dec.{eqb}
use Rattle.attrs.proofs.Slots.{agrees-there, agrees-not}
use Rattle.attrs.proofs.Attrs.agrees.Goals as goal

pub returns-then-has : goal.returns-then-has
returns-then-has c =
    let a = c.args in
    ap (λ (x : ℕ). eqb x a.value) c.get.ensures.is
    ∙ agrees-there a.self a.key a.value (sym c.has.ensures ∙ c.if-has.true)

pub returns-else-has : goal.returns-else-has
returns-else-has c = c.if-has.false ∙ agrees-not _ _ _ (sym c.has.ensures ∙ c.if-has.false)

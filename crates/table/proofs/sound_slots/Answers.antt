-- `table::sound_slots` meets its contract. Assumes nothing.
use mathlib.Core.Path.{sym, ◌∙◌}
use Rattle.table.proofs.Tables.{shown_where}
use Rattle.table.proofs.sound_slots.Goals as goal

pub returns : goal.returns
returns c =
    let same = c.in_ok-slots.ensures.cases.same in
    let is = rw same at c.in_order.ensures in
    rw c.then_some.ensures (shown_where _ _ _ (λ f. sym is ∙ f) (λ t. (sym is ∙ t, same)))

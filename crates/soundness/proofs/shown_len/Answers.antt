-- `soundness::shown_len` meets its contract. Assumes nothing.
use mathlib.Core.Path.{sym, ap, ◌∙◌}
use Rattle.rules.specs.Sheet.{width}
use Rattle.soundness.proofs.Payloads.{as-embed, no-embed}
use Rattle.soundness.proofs.shown_len.Goals as goal

pub returns-then-dead : goal.returns-then-dead
returns-then-dead c = rw c.if-dead.true

pub returns-then-kind-eq1 : goal.returns-then-kind-eq1
returns-then-kind-eq1 c = rw c.if-dead.false (sym (ap width (as-embed _ _ c.if-kind-eq1.true)))

pub returns-else-kind-eq1 : goal.returns-else-kind-eq1
returns-else-kind-eq1 c = rw c.if-dead.false (c.text_len.ensures ∙ no-embed _ _ c.if-kind-eq1.false)

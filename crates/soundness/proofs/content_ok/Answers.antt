-- `soundness::content_ok` meets its contract. Assumes nothing.
use mathlib.Core.Path.{sym, ap, ◌∙◌}
use Rattle.layout.specs.Memory.{what_ok}
use Rattle.soundness.proofs.Payloads.{as-text, as-embed, mark-ok}
use Rattle.soundness.proofs.content_ok.Goals as goal

pub returns-then-kind-eq0 : goal.returns-then-kind-eq0
returns-then-kind-eq0 c = c.piece_ok.ensures ∙ ap (what_ok _ _) (sym (as-text _ _ c.if-kind-eq0.true))

pub returns-then-kind-eq1 : goal.returns-then-kind-eq1
unfolding what_ok
returns-then-kind-eq1 c = rw (as-embed _ _ c.if-kind-eq1.true)

pub returns : goal.returns
returns c = mark-ok _ _ _ _ c.if-kind-eq0.false c.if-kind-eq1.false

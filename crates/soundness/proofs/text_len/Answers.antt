-- `soundness::text_len` meets its contract. Assumes nothing.
use mathlib.Core.Path.{sym, ap}
use Rattle.layout.specs.Memory.{len_of}
use Rattle.soundness.proofs.Payloads.{as-text, no_text}
use Rattle.soundness.proofs.text_len.Goals as goal

pub returns-then-kind-eq0 : goal.returns-then-kind-eq0
returns-then-kind-eq0 c = sym (ap len_of (as-text _ _ c.if-kind-eq0.true))

pub returns-else-kind-eq0 : goal.returns-else-kind-eq0
returns-else-kind-eq0 c = sym (no_text _ _ c.if-kind-eq0.false)

-- `deltas::faults::text_fault` meets its contract. Assumes nothing.
use Prim.Native.Nat.{ℕ}
use native.Mathlib.Nat.{add-sub_cancel_left}
use mathlib.Core.Path.{sym, ap, ◌∙◌}
use lib.ListN.{take, drop}
use Rattle.units.specs.Surrogates.{paired}
use Rattle.deltas.proofs.faults.text_fault.Goals as goal

pub returns-then-is_whole : goal.returns-then-is_whole
returns-then-is_whole c =
    let a = c.args in
    rw (sym (ap (λ (n : ℕ). paired (take n (drop a.start a.chunk.now))) (add-sub_cancel_left a.start a.len)) ∙ sym c.is_whole.ensures ∙ c.if-is_whole.true)

pub returns-else-is_whole : goal.returns-else-is_whole
returns-else-is_whole c =
    let a = c.args in
    rw (sym (ap (λ (n : ℕ). paired (take n (drop a.start a.chunk.now))) (add-sub_cancel_left a.start a.len)) ∙ sym c.is_whole.ensures ∙ c.if-is_whole.false)

-- `soundness::piece_ok` meets its contract. Assumes nothing.
use Prim.Native.Nat.{◌+◌, ◌<◌, ◌≤◌}
use native.Mathlib.Omega.{arith}
use native.Mathlib.Nat.{add-sub_cancel_left}
use mathlib.Core.Path.{sym, ◌∙◌}
use Rattle.units.proofs.Plain.{plain-piece}
use Rattle.layout.proofs.Soundness.{piece-empty, piece-out, piece_in}
use Rattle.soundness.proofs.piece_ok.Goals as goal
use Rattle.soundness.proofs.piece_ok.Goals.{then-len-eq0-via-then-len-eq0, then-len-eq0-via-else-len-eq0+then-end-texts}

pub returns-then-len-eq0 : goal.returns-then-len-eq0
returns-then-len-eq0 c =
    elim c.then-len-eq0.branch [
      | then-len-eq0-via-then-len-eq0 w ↦ sym (piece-empty _ _ _ _ w.if-len-eq0.true)
      | then-len-eq0-via-else-len-eq0+then-end-texts w ↦ sym (piece-out _ _ _ _ w.if-end-texts.true)
    ]

pub returns-then-texts : goal.returns-then-texts
returns-then-texts c =
    let a = c.args in
    let z : 0 < a.len = omega arith in
    let l : a.start + a.len ≤ a.texts.used = omega arith in
    c.if-texts.true ∙ sym (piece_in _ _ _ _ z l ∙ plain-piece _ _ _ _ l (a.texts.whole c.if-texts.true))

pub returns-else-texts : goal.returns-else-texts
returns-else-texts c =
    let a = c.args in
    let z : 0 < a.len = omega arith in
    let l : a.start + a.len ≤ a.texts.used = omega arith in
    rw (c.is_whole.ensures, add-sub_cancel_left a.start a.len) (sym (piece_in _ _ _ _ z l))

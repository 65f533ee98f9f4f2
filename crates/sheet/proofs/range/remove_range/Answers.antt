-- `sheet::range::remove_range` meets its contract: each way by its law. Assumes nothing.
use mathlib.Core.Path.{◌≡◌, refl, sym, ◌∙◌}
use mathlib.Core.Bool.{true}
use Rattle.std.proofs.lemmas.Result.{err_from_is_err_and}
use Rattle.rules.specs.Calls.{Call, remove_range}
use Rattle.rules.specs.Reading.{visible}
use Rattle.layout.specs.Memory.{list_of, sound_of}
use Rattle.changes.specs.Changes.{move_of}
use Rattle.changes.proofs.Sounds.{sound-loads}
use Rattle.changes.proofs.Calls.{carry_unsound, carry-fault, carry_quiet, carry-edited}
use Rattle.refusals.proofs.Ranges.{remove_quiet, remove-ruled}
use Rattle.sheet.proofs.Measured.{measured-ok, measured-err}
use Rattle.sheet.proofs.range.remove_range.Goals as goal
use Rattle.sheet.proofs.range.remove_range.Goals.{In_ok-all, Start}

abbrev asked : Start → Call
asked s = remove_range s.args.index s.args.len

sound-here : (c : In_ok-all) → (
    let a = c.args in
    (sound_of a.h a.items.now a.units.now ≡ true) × (c.in_ok-all.all ≡ visible (list_of a.h a.items.now))
    )
sound-here c = measured-ok _ _ _ _ c.measure.ensures (sym c.ok_or.ensures.value ∙ c.in_ok-all.was)

pub returns-in_err-all : goal.returns-in_err-all
returns-in_err-all c =
    let p = err_from_is_err_and c.from_residual.result c.from_residual.ensures.1 in
    let m = measured-err _ _ _ _ c.measure.ensures (sym c.ok_or.ensures.value ∙ c.in_err-all.was) in
    rw (p.1, p.2, sym m.1) (carry_unsound (asked (goal.at.returns-in_err-all c).Start) _ _ _ m.0)

pub removal_fault-requires : goal.removal_fault-requires
removal_fault-requires c = sound-here (goal.at.removal_fault-requires c).In_ok-all

pub returns-in_err-removal_fault : goal.returns-in_err-removal_fault
returns-in_err-removal_fault c =
    let p = err_from_is_err_and c.from_residual-in_err-removal_fault.result c.from_residual-in_err-removal_fault.ensures.1 in
    rw (p.1, p.2) (carry-fault (asked (goal.at.returns-in_err-removal_fault c).Start) _ _ _ (sound-here (goal.at.returns-in_err-removal_fault c).In_ok-all).0 _ refl _ c.in_err-removal_fault.ensures)

pub returns-then-len-eq0 : goal.returns-then-len-eq0
returns-then-len-eq0 c = carry_quiet (asked (goal.at.returns-then-len-eq0 c).Start) _ _ _ (sound-here (goal.at.returns-then-len-eq0 c).In_ok-all).0 (remove_quiet _ _ _ _ c.if-len-eq0.true c.in_ok-removal_fault.ensures refl)

pub edit-requires : goal.edit-requires
edit-requires c = (sound-loads _ _ _ (sound-here (goal.at.edit-requires c).In_ok-all).0, tt)

pub returns : goal.returns
unfolding move_of
returns c = carry-edited (asked (goal.at.returns c).Start) _ _ _ (sound-here (goal.at.returns c).In_ok-all).0 _ (remove-ruled _ _ _ c.if-len-eq0.false) _ c.in_ok-removal_fault.ensures refl refl _ c.edit.ensures

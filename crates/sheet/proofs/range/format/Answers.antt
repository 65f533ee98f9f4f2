-- `sheet::range::format` meets its contract: each way by its law. Assumes nothing.
use mathlib.Core.Path.{refl, sym, ◌∙◌}
use Rattle.std.proofs.lemmas.Result.{err_from_is_err_and}
use Rattle.attrs.specs.Packed.{says}
use Rattle.rules.specs.Calls.{Call, format_range}
use Rattle.changes.specs.Changes.{move_of}
use Rattle.changes.proofs.Sounds.{sound-loads}
use Rattle.changes.proofs.Calls.{carry_unsound, carry-fault, carry-edited}
use Rattle.sheet.proofs.range.format.Goals as goal
use Rattle.sheet.proofs.range.format.Goals.{Start}

abbrev asked : Start → Call
asked s = format_range s.args.index s.args.len (says s.args.attrs)

pub returns-then-not-sound : goal.returns-then-not-sound
returns-then-not-sound c = carry_unsound (asked (goal.at.returns-then-not-sound c).Start) _ _ _ (sym c.sound.ensures ∙ c.if-not-sound.true)

pub returns-in_err-range_fault : goal.returns-in_err-range_fault
returns-in_err-range_fault c =
    let p = err_from_is_err_and c.from_residual.result c.from_residual.ensures.1 in
    rw (p.1, p.2) (carry-fault (asked (goal.at.returns-in_err-range_fault c).Start) _ _ _ (sym c.sound.ensures ∙ c.if-not-sound.false) _ refl _ c.in_err-range_fault.ensures)

pub edit-requires : goal.edit-requires
edit-requires c = (sound-loads _ _ _ (sym c.sound.ensures ∙ c.if-not-sound.false), tt)

pub returns : goal.returns
unfolding move_of
returns c = carry-edited (asked (goal.at.returns c).Start) _ _ _ (sym c.sound.ensures ∙ c.if-not-sound.false) _ refl _ c.in_ok-range_fault.ensures refl refl _ c.edit.ensures

-- `sheet::insert::put_text` meets its contract: each way by its law. Assumes nothing.
use Prim.Native.Nat.{◌+◌, ◌<◌, ◌≤◌}
use native.Mathlib.Omega.{arith}
use mathlib.Core.Path.{◌≡◌, refl, sym, subst⁻¹, ◌∙◌}
use mathlib.Core.List.{◌++◌}
use lib.ListN.{length, take}
use borrow.Author.Tests.{eqb-true, eqb-false, ne_eqb}
use Rattle.std.proofs.lemmas.Result.{err_from_is_err_and}
use Rattle.refusal.proofs.Numbered.{number-some}
use Rattle.rules.specs.Calls.{Call}
use Rattle.rules.specs.Rulings.{ruling}
use Rattle.layout.specs.Memory.{model_of}
use Rattle.layout.proofs.Soundness.{sound-parts}
use Rattle.changes.specs.Changes.{Ready}
use Rattle.sheet.specs.Inserts.{text_call}
use Rattle.changes.proofs.Works.{granted_by}
use Rattle.changes.proofs.Sounds.{sound-loads}
use Rattle.changes.proofs.Calls.{carry_unsound, carry_quiet, carry-fault, carry-crowded, carry-granted}
use Rattle.sheet.proofs.Inserts.{text_ruled, text-ruled, text_quiet, text-long, text_ready}
use Rattle.sheet.proofs.insert.put_text.Goals as goal
use Rattle.sheet.proofs.insert.put_text.Goals.{Else-is_empty, Else-chunk-start, Start}

-- the call that is asked for, and its ruling
abbrev asked : Start → Call
asked s = text_call s.args.index s.args.chunk.now s.args.attrs

some : (c : Else-is_empty) → 0 < length c.args.chunk.now
some c =
    let none = eqb-false _ _ (sym c.is_empty.ensures ∙ c.if-is_empty.false) in
    omega (arith, none)

ruled : (c : Else-is_empty) → (
    let a = c.args in
    ruling (text_call a.index a.chunk.now a.attrs) (model_of a.h a.items.now a.units.now) ≡ text_ruled a.index a.chunk.now a.attrs a.h a.items.now a.units.now
    )
ruled c =
    let a = c.args in
    text-ruled a.index a.chunk.now a.attrs a.h a.items.now a.units.now (sym c.sound.ensures ∙ c.if-not-sound.false) (some c)

few : (c : Else-chunk-start) → c.args.h.units + length c.args.chunk.now ≤ 16384
few c = omega (arith, c.if-chunk-start.false, (sound-parts _ _ _ (sym c.sound.ensures ∙ c.if-not-sound.false)).used)

pub returns-then-not-sound : goal.returns-then-not-sound
returns-then-not-sound c = carry_unsound (asked (goal.at.returns-then-not-sound c).Start) _ _ _ (sym c.sound.ensures ∙ c.if-not-sound.true)

pub returns-then-is_empty : goal.returns-then-is_empty
returns-then-is_empty c =
    let a = c.args in
    carry_quiet (asked (goal.at.returns-then-is_empty c).Start) _ _ _ (sym c.sound.ensures ∙ c.if-not-sound.false) (text_quiet a.index a.chunk.now a.attrs _ (eqb-true _ _ (sym c.is_empty.ensures ∙ c.if-is_empty.true)))

pub returns-in_err-text_fault : goal.returns-in_err-text_fault
returns-in_err-text_fault c =
    let p = err_from_is_err_and c.from_residual.result c.from_residual.ensures.1 in
    rw (p.1, p.2) (carry-fault (asked (goal.at.returns-in_err-text_fault c).Start) _ _ _ (sym c.sound.ensures ∙ c.if-not-sound.false) _ (ruled (goal.at.returns-in_err-text_fault c).Else-is_empty) _ c.in_err-text_fault.ensures)

pub overflow_sub-start : goal.overflow_sub-start
overflow_sub-start c = omega (arith, (sound-parts _ _ _ (sym c.sound.ensures ∙ c.if-not-sound.false)).used)

pub returns-then-chunk-start : goal.returns-then-chunk-start
returns-then-chunk-start c =
    let a = c.args in
    let sound = sym c.sound.ensures ∙ c.if-not-sound.false in
    let over : 16384 < length (take a.h.units a.units.now ++ a.chunk.now) = omega (arith, c.if-chunk-start.true, text-long a.index a.chunk.now a.attrs a.h a.items.now a.units.now sound) in
    carry-crowded (asked (goal.at.returns-then-chunk-start c).Start) _ _ _ sound _ (ruled (goal.at.returns-then-chunk-start c).Else-is_empty) _ c.in_ok-text_fault.ensures refl over

pub edit-requires : goal.edit-requires
edit-requires c = (
  sound-loads _ _ _ (sym c.sound.ensures ∙ c.if-not-sound.false),
  subst⁻¹ Ready c.with_or_plain-change.ensures (text_ready _ _ c.args.attrs (some (goal.at.edit-requires c).Else-is_empty) (few (goal.at.edit-requires c).Else-chunk-start)),
)

pub returns-in_err-head : goal.returns-in_err-head
returns-in_err-head c =
    let s = (goal.at.returns-in_err-head c).Start in
    let a = s.args in
    let sound = sym c.sound.ensures ∙ c.if-not-sound.false in
    let p = err_from_is_err_and c.from_residual-in_err-head.result c.from_residual-in_err-head.ensures.1 in
    rw (p.1, p.2) (
    carry-granted (asked s) _ _ _ sound _ (ruled (goal.at.returns-in_err-head c).Else-is_empty) _ c.in_ok-text_fault.ensures refl _ (text-long a.index a.chunk.now a.attrs a.h a.items.now a.units.now sound) (few (goal.at.returns-in_err-head c).Else-chunk-start) _
    (granted_by _ _ _ _ _ c.in_err-head.ensures c.with_or_plain-change.ensures)
    _ (rw (ne_eqb _ 0 (number-some c.in_err-head.field-0.0)))
    )

pub append-requires : goal.append-requires
append-requires c = omega (arith, few (goal.at.append-requires c).Else-chunk-start, (sound-parts _ _ _ (sym c.sound.ensures ∙ c.if-not-sound.false)).room)

pub returns : goal.returns
returns c =
    let s = (goal.at.returns c).Start in
    let a = s.args in
    let sound = sym c.sound.ensures ∙ c.if-not-sound.false in
    carry-granted (asked s) _ _ _ sound _ (ruled (goal.at.returns c).Else-is_empty) _ c.in_ok-text_fault.ensures refl _ (text-long a.index a.chunk.now a.attrs a.h a.items.now a.units.now sound) (few (goal.at.returns c).Else-chunk-start) _
    (granted_by _ _ _ _ _ c.in_ok-head.ensures c.with_or_plain-change.ensures)
    _ c.append.ensures

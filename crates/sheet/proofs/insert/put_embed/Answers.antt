-- `sheet::insert::put_embed` meets its contract: each way by its law. Assumes nothing.
use native.Mathlib.Omega.{arith}
use mathlib.Core.Path.{◌≡◌, refl, sym, subst⁻¹, ◌∙◌}
use Rattle.std.proofs.lemmas.Result.{err_from_is_err_and}
use Rattle.rules.specs.Calls.{Call}
use Rattle.rules.specs.Rulings.{ruling}
use Rattle.layout.specs.Memory.{model_of}
use Rattle.changes.specs.Changes.{Ready}
use Rattle.sheet.specs.Inserts.{embed_call}
use Rattle.changes.proofs.Works.{granted_by}
use Rattle.changes.proofs.Sounds.{sound-loads}
use Rattle.changes.proofs.Calls.{carry_unsound, carry-fault, carry-edited}
use Rattle.sheet.proofs.Inserts.{embed_ruled, embed-ruled, embed_ready}
use Rattle.sheet.proofs.insert.put_embed.Goals as goal
use Rattle.sheet.proofs.insert.put_embed.Goals.{Start}

-- the call that is asked for, and its ruling
abbrev asked : Start → Call
asked s = embed_call s.args.index s.args.number s.args.attrs

ruled : (s : Start) → (
    let x = model_of s.args.h s.args.items.now s.args.units.now in
    ruling (asked s) x ≡ embed_ruled s.args.index s.args.number s.args.attrs x
    )
ruled s = embed-ruled s.args.index s.args.number s.args.attrs _

pub returns-then-not-sound : goal.returns-then-not-sound
returns-then-not-sound c = carry_unsound (asked (goal.at.returns-then-not-sound c).Start) _ _ _ (sym c.sound.ensures ∙ c.if-not-sound.true)

pub returns-in_err-embed_fault : goal.returns-in_err-embed_fault
returns-in_err-embed_fault c =
    let s = (goal.at.returns-in_err-embed_fault c).Start in
    let p = err_from_is_err_and c.from_residual.result c.from_residual.ensures.1 in
    rw (p.1, p.2) (carry-fault (asked s) _ _ _ (sym c.sound.ensures ∙ c.if-not-sound.false) _ (ruled s) _ c.in_err-embed_fault.ensures)

pub edit-requires : goal.edit-requires
edit-requires c = (sound-loads _ _ _ (sym c.sound.ensures ∙ c.if-not-sound.false), subst⁻¹ Ready c.with_or_plain-change.ensures (embed_ready _ c.args.attrs (omega (arith, c.ranges.number))))

pub returns : goal.returns
returns c =
    carry-edited (asked (goal.at.returns c).Start) _ _ _ (sym c.sound.ensures ∙ c.if-not-sound.false) _ (ruled (goal.at.returns c).Start) _ c.in_ok-embed_fault.ensures refl refl _
    (granted_by _ _ _ _ _ c.edit.ensures c.with_or_plain-change.ensures)

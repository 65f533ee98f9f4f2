-- `items::text_of` meets its contract, by the cases of `Showing`. Assumes nothing.
use native.Mathlib.Omega.{arith}
use mathlib.Core.Path.{◌≡◌, refl, sym, ◌∙◌}
use mathlib.Core.Bool.{true}
use Rattle.layout.specs.Memory.{sound_of}
use Rattle.layout.proofs.Soundness.{sound-parts}
use Rattle.items.proofs.Showing.{text-broken, text-unused, text-is, text-room, no_text, text-part}
use Rattle.items.proofs.text_of.Goals as goal
use Rattle.items.proofs.text_of.Goals.{Else-n-h, then-not-sound-via-then-not-sound, then-not-sound-via-else-not-sound+then-n-h}

-- where the item is read: the sheet is sound, and the number is used
sound-here : (c : Else-n-h) → (
    let a = c.args in
    sound_of a.h a.items.now a.units.now ≡ true
    )
sound-here c = sym c.sound.ensures ∙ c.if-not-sound.false

pub returns-then-not-sound : goal.returns-then-not-sound
returns-then-not-sound c =
    elim c.then-not-sound.branch [
      | then-not-sound-via-then-not-sound w ↦ text-broken _ _ _ _ (sym c.sound.ensures ∙ w.if-not-sound.true)
      | then-not-sound-via-else-not-sound+then-n-h w ↦ text-unused _ _ _ _ (sym c.sound.ensures ∙ w.if-not-sound.false) (omega arith)
    ]

pub bounds-items-n : goal.bounds-items-n
bounds-items-n c =
    let s = sound-parts _ _ _ (sound-here (goal.at.bounds-items-n c).Else-n-h) in
    omega (arith, s.words, s.items)

pub slice_bounds-result-end-in-Text : goal.slice_bounds-result-end-in-Text
slice_bounds-result-end-in-Text c = omega (arith, text-room _ _ _ _ _ _ _ (sound-here (goal.at.slice_bounds-result-end-in-Text c).Else-n-h) c.if-n-h.false c.unpack.ensures c.in-Text.is)

pub returns-in-Text : goal.returns-in-Text
returns-in-Text c =
    text-part c.args.units.now c.in-Text.start c.in-Text.len ∙ sym (text-is _ _ _ _ _ _ (sound-here (goal.at.returns-in-Text c).Else-n-h) c.if-n-h.false c.unpack.ensures c.in-Text.is)

pub returns-in_default : goal.returns-in_default
returns-in_default c =
    let a = c.args in
    no_text a.units.now c.unpack.result.content c.in_default.not-Text
    ∙ sym (text-is _ _ _ _ _ _ (sound-here (goal.at.returns-in_default c).Else-n-h) c.if-n-h.false c.unpack.ensures refl)

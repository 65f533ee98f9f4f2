-- Any sequence of calls, refused ones among them. After Begin, the event read over what stood then gives what stands now,
-- it keeps, drops and gives exactly what the items say, and the undo is the same event with the readings swapped.
-- And no call changes what is in force at the list's end.
use Prim.Native.Nat.{ℕ, ◌≤◌}
use mathlib.Core.Path.{◌≡◌, refl, sym, ap, ◌∙◌, subst}
use mathlib.Core.List.{List, [], ◌∷◌}
use native.Mathlib.Omega.{arith}
use lib.ListN.{length}
use Rattle.sets.specs.Sets.{keys}
use Rattle.rules.specs.Sheet.{text, embed, Item, begin}
use Rattle.rules.specs.Reading.{Seen, live, before, cells, force, pass_key, seen_glyphs, read}
use Rattle.rules.specs.Places.{whole}
use Rattle.rules.specs.Event.{event, told_units}
use Rattle.rules.specs.Calls.{Sheet, fresh_sheet, Call, insert_text, insert_text_with, insert_embed, insert_embed_with, format_range, remove_range, apply_delta, begin_now, laid_out, call}
use Rattle.rules.specs.Rulings.{Edit, FineCall, Within, SoundSheet, ruling}
use Rattle.rules.specs.Scripts.{Tells}
use Rattle.rules.specs.Pieces.{after}
use Rattle.laws.proofs.Lists.{In}
use Rattle.laws.proofs.Replay.{replay}
use Rattle.laws.proofs.Cuts.{glyphs_in, in_cells, cells-seen, seen-live}
use Rattle.laws.proofs.Told.{event-tells}
use Rattle.laws.proofs.Grown.{begin-before}
use Rattle.laws.proofs.Calls.{call_cases, fresh-sound, call-before, call-sound, call-within}
use Rattle.laws.proofs.Fits.{Holds, event-fits}
use Rattle.laws.proofs.Format.{format-end}
use Rattle.laws.proofs.Insert.{insert-end, plain_text-end, plain_embed-end}
use Rattle.laws.proofs.Remove.{remove-end}
use Rattle.laws.proofs.Delta.{delta-end}

-- calls that can be handed in, none of them Begin
abbrev pub Edits : List Call → Type 0
Edits [] = Unit {0}
Edits (c ∷ cs) = Edit c × FineCall c × Edits cs

-- calls that can be handed in, Begin among them
abbrev pub FineCalls : List Call → Type 0
FineCalls [] = Unit {0}
FineCalls (c ∷ cs) = FineCall c × FineCalls cs

pub edits_fine : (cs : List Call) → Edits cs → FineCalls cs
edits_fine [] d = tt
edits_fine (c ∷ cs) d = (d.1, edits_fine cs d.2)

-- Any calls leave a sound sheet, so every sheet made from a fresh one is sound.
pub calls-sound : (cs : List Call) → FineCalls cs → (s : Sheet) → SoundSheet s → SoundSheet (after cs s)
calls-sound [] d s h = h
calls-sound (c ∷ cs) d s h = calls-sound cs d.1 (call c s).sheet (call-sound c d.0 s h)

pub made-sound : (cs : List Call) → FineCalls cs → SoundSheet (after cs fresh_sheet)
made-sound cs d = calls-sound cs d fresh_sheet fresh-sound

pub calls-before : (j : ℕ) (cs : List Call) → Edits cs → (s : Sheet) → SoundSheet s → cells before j 0 (after cs s).items ≡ cells before j 0 s.items
calls-before j [] d s h = refl
calls-before j (c ∷ cs) d s h = calls-before j cs d.2 (call c s).sheet (call-sound c d.1 s h) ∙ call-before j c d.0 d.1 s h

module _ (cs : List Call) (d : Edits cs) (s : Sheet) (h : SoundSheet s) where
  -- the list after Begin and the calls
  abbrev now : List Item
  now = (after cs (call begin_now s).sheet).items

  now-sound : SoundSheet (after cs (call begin_now s).sheet)
  now-sound = calls-sound cs (edits_fine cs d) (call begin_now s).sheet (call-sound begin_now tt s h)

  -- the reading before is what stood at the beginning
  pub before-stays : (j : ℕ) → cells before j 0 now ≡ cells live j 0 s.items
  before-stays j = calls-before j cs d (call begin_now s).sheet (call-sound begin_now tt s h) ∙ begin-before j 0 s.items

  -- The event, read over what stood at the beginning, gives what stands now ..
  pub transaction : (j : ℕ) → In j keys → read j (event before live now) (cells live j 0 s.items) ≡ cells live j 0 now
  transaction j jk = ap (read j (event before live now)) (sym (before-stays j)) ∙ replay j jk before live now

  -- .. and swapped, read over what stands now, what stood at the beginning.
  pub undo : (j : ℕ) → In j keys → read j (event live before now) (cells live j 0 now) ≡ cells live j 0 s.items
  undo j jk = replay j jk live before now ∙ before-stays j

  -- It drops exactly the units of the beginning that are gone, keeps all others of them, and gives exactly the new ones.
  pub transaction-tells : Tells before live now (seen_glyphs s.items)
  transaction-tells =
      subst (Tells before live now) (sym (cells-seen before 0 0 now) ∙ ap glyphs_in (before-stays 0) ∙ in_cells 0 0 s.items) (event-tells before live now)

  pub undo-tells : Tells live before now (seen_glyphs now)
  undo-tells = subst (Tells live before now) (seen-live now) (event-tells live before now)

  -- 2,048 operations and 16,384 units hold it, and any other event of the list.
  pub transaction-fits : (was is : Seen) → Holds now (length (event was is now)) (told_units (event was is now))
  transaction-fits was is =
      let n : (after cs (call begin_now s).sheet).next ≤ 2048 = omega (arith, now-sound.list.count, now-sound.within.items) in
      event-fits was is now _ _ now-sound.list n now-sound.within.units

-- What is in force at the list's end never changes.
module _ (j : ℕ) (jk : In j keys) where
  begin-end : (v : ℕ) (l : List Item) → force live j v (begin l) ≡ force live j v l
  begin-end v [] = refl
  begin-end v (i ∷ l) = begin-end (pass_key live j i v) l

  ruling-end : (c : Call) (s : Sheet) → force live j 0 (whole (ruling c s).place) ≡ force live j 0 s.items
  ruling-end (insert_text i []) s = refl
  ruling-end (insert_text i (x ∷ us)) s = plain_text-end j i (text (length s.units) (length (x ∷ us))) s.items s.next refl
  ruling-end (insert_text_with i [] a) s = refl
  ruling-end (insert_text_with i (x ∷ us) a) s = insert-end j jk i (text (length s.units) (length (x ∷ us))) a s.items s.next refl
  ruling-end (insert_embed i e) s = plain_embed-end j i (embed e) s.items s.next refl
  ruling-end (insert_embed_with i e a) s = insert-end j jk i (embed e) a s.items s.next refl
  ruling-end (format_range i n a) s = format-end j jk a i n s.items s.next
  ruling-end (remove_range i n) s = remove-end j i n s.items s.next
  ruling-end (apply_delta ops) s = delta-end j jk (laid_out (length s.units) ops) s.items s.next
  ruling-end begin_now s = begin-end 0 s.items

  pub call-end : (c : Call) (s : Sheet) → Within s → force live j 0 (call c s).sheet.items ≡ force live j 0 s.items
  call-end c s w = call_cases (λ o. force live j 0 o.sheet.items ≡ force live j 0 s.items) c s w (λ n h. refl) (λ e h. ruling-end c s)

  -- On every sheet made from a fresh one, nothing is in force there.
  pub end_none : (cs : List Call) → force live j 0 (after cs fresh_sheet).items ≡ 0
  end_none cs = go cs fresh_sheet fresh-sound.within
    where
      go : (cs : List Call) (s : Sheet) → Within s → force live j 0 (after cs s).items ≡ force live j 0 s.items
      go [] s w = refl
      go (c ∷ cs) s w = go cs (call c s).sheet (call-within c s w) ∙ call-end c s w

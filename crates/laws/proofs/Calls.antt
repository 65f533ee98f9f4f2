-- Every call, refused or not: a refused one changes nothing, an accepted one leaves a sound sheet, appends its units, and keeps the reading before.
use Prim.Native.Nat.{ℕ, ◌+◌, ◌≤◌, ◌<◌}
use mathlib.Core.Path.{◌≡◌, refl, sym, ap, ◌∙◌, subst}
use mathlib.Core.Bool.{Bool, true, false, cond, ◌&&◌}
use mathlib.Core.List.{List, [], ◌∷◌, ◌++◌, append-nil}
use native.Mathlib.Omega.{arith}
use lib.Dec.{eqb, leb}
use lib.ListN.{length, length-map}
use borrow.Author.Tests.{eqb-true, eqb-false, leb-true, le-ltb}
use Rattle.rules.specs.Sheet.{text, embed, mark, Item, rested, begin}
use Rattle.rules.specs.Reading.{before, cells}
use Rattle.rules.specs.Places.{whole}
use Rattle.rules.specs.Sound.{AllFit, held, occurs, below}
use Rattle.rules.specs.Calls.{Sheet, fresh_sheet, Outcome, refuse, roomy, Call, insert_text, insert_text_with, insert_embed, insert_embed_with, format_range, remove_range, apply_delta, begin_now, call, AllPaired}
use Rattle.rules.specs.Rulings.{Within, AllInWord, SoundSheet, Ruling, ruling, ruled, brought, FineCall, Edit}
use Rattle.laws.proofs.Lists.{and_left, and_right}
use Rattle.laws.proofs.Grown.{same, grown-stays, grown-next}
use Rattle.laws.proofs.Sound.{grown-sound, grown-once}
use Rattle.laws.proofs.Pairs.{grown-paired, grown-words, paired-on}
use Rattle.laws.proofs.Rulings.{call-is}
use Rattle.laws.proofs.Leads.{Leads, Rules, ruling_leads}

-- A call is refused and leaves the sheet, or nothing is wrong with it and the sheet is as ruled, within the limits.
pub call_cases : (P : Outcome → Type 0) (c : Call) (s : Sheet) → Within s
    → ((n : ℕ) → 0 < n → P (refuse n s))
    → ((ruling c s).fault ≡ 0 → Within (ruled (ruling c s)) → P (record { refusal = 0; sheet = ruled (ruling c s) }))
    → P (call c s)
call_cases P c s w left done = subst P (sym (call-is c s w)) (go (eqb r.fault 0) refl)
  where
    r : Ruling
    r = ruling c s

    fits : r.fault ≡ 0 → (b : Bool) → (leb (length (whole r.place)) 2048 && leb (length r.units) 16384) ≡ b → P (cond b (record { refusal = 0; sheet = ruled r }) (refuse 4 s))
    fits e false q = left 4 (omega arith)
    fits e true q = done e (record { items = leb-true _ _ (and_left _ _ q); units = leb-true _ _ (and_right (leb (length (whole r.place)) 2048) _ q) })

    go : (b : Bool) → eqb r.fault 0 ≡ b → P (cond b (roomy r.place r.units s) (refuse r.fault s))
    go true e = fits (eqb-true r.fault 0 e) _ refl
    go false e = let n = eqb-false r.fault 0 e in left r.fault (omega arith)

-- A refused call leaves the sheet as it was.
pub call-refused : (c : Call) (s : Sheet) → Within s → (n : ℕ) → (call c s).refusal ≡ n → 0 < n → (call c s).sheet ≡ s
call-refused c s w n = call_cases (λ o. o.refusal ≡ n → 0 < n → o.sheet ≡ s) c s w (λ k h e h'. refl) (λ e h q h'. absurd (omega arith))

-- An accepted call leaves the sheet as ruled.
pub call-accepted : (c : Call) (s : Sheet) → Within s → (call c s).refusal ≡ 0 → (call c s).sheet ≡ ruled (ruling c s)
call-accepted c s w = call_cases (λ o. o.refusal ≡ 0 → o.sheet ≡ ruled (ruling c s)) c s w (λ k h e. absurd (omega arith)) (λ e h q. refl)

-- The limits are kept.
pub call-within : (c : Call) (s : Sheet) → Within s → Within (call c s).sheet
call-within c s w = call_cases (λ o. Within o.sheet) c s w (λ k h. w) (λ e h. h)

-- An accepted call appends the units that it brings, and does nothing else to the units.
pub ruling-units : (c : Call) (s : Sheet) → (ruling c s).units ≡ s.units ++ brought c
ruling-units (insert_text i []) s = sym (append-nil s.units)
ruling-units (insert_text i (u ∷ us)) s = refl
ruling-units (insert_text_with i [] a) s = sym (append-nil s.units)
ruling-units (insert_text_with i (u ∷ us) a) s = refl
ruling-units (insert_embed i e) s = sym (append-nil s.units)
ruling-units (insert_embed_with i e a) s = sym (append-nil s.units)
ruling-units (format_range i n a) s = sym (append-nil s.units)
ruling-units (remove_range i n) s = sym (append-nil s.units)
ruling-units (apply_delta ops) s = refl
ruling-units begin_now s = sym (append-nil s.units)

pub call-units : (c : Call) (s : Sheet) → Within s → (call c s).refusal ≡ 0 → (call c s).sheet.units ≡ s.units ++ brought c
call-units c s w e = ap (λ (t : Sheet). t.units) (call-accepted c s w e) ∙ ruling-units c s

-- By steps, for every call but Begin.
pub call_leads : (c : Call) → Edit c → FineCall c → (s : Sheet) → SoundSheet s → Leads s (call c s).sheet
call_leads c d f s h = call_cases (λ o. Leads s o.sheet) c s h.within (λ n q. same) (λ e q. ruling_leads c d f s h.list.fit e)

-- The reading before stays.
pub call-before : (j : ℕ) (c : Call) → Edit c → FineCall c → (s : Sheet) → SoundSheet s → cells before j 0 (call c s).sheet.items ≡ cells before j 0 s.items
call-before j c d f s h = grown-stays j (call_leads c d f s h) 0

-- The numbers of the new list are the old ones and the next ones, each once; and no number is given back.
pub call-numbers : (j : ℕ) (c : Call) → Edit c → FineCall c → (s : Sheet) → SoundSheet s → occurs j (call c s).sheet.items + below j s.next ≡ occurs j s.items + below j (call c s).sheet.next
call-numbers j c d f s h = grown-once j (call_leads c d f s h)

pub call_next : (c : Call) → Edit c → FineCall c → (s : Sheet) → SoundSheet s → s.next ≤ (call c s).sheet.next
call_next c d f s h = grown-next (call_leads c d f s h)

-- A fresh sheet is sound.
pub fresh-sound : SoundSheet fresh_sheet
fresh-sound = record {
  list = record { fit = tt; whole = refl; once = λ j. sym (ap (λ (b : Bool). cond b 1 0) (le-ltb j 0 (omega arith))); count = refl };
  pairs = tt;
  embeds = tt;
  within = record { items = omega arith; units = omega arith };
}

-- A sound sheet stays sound.
ruled-sound : (c : Call) → Edit c → FineCall c → (s : Sheet) → SoundSheet s → (ruling c s).fault ≡ 0 → Within (ruled (ruling c s)) → SoundSheet (ruled (ruling c s))
ruled-sound c d f s h e w = record {
  list = grown-sound g h.list;
  pairs = grown-paired us g (omega arith) h.list.fit (subst (λ (us : List ℕ). AllPaired us s.items) (sym (ruling-units c s)) (paired-on s.units (brought c) s.items h.list.fit h.pairs));
  embeds = grown-words us g h.embeds;
  within = w;
}
  where
    us : List ℕ
    us = (ruling c s).units

    g : Rules s (ruling c s)
    g = ruling_leads c d f s h.list.fit e

edit-sound : (c : Call) → Edit c → FineCall c → (s : Sheet) → SoundSheet s → SoundSheet (call c s).sheet
edit-sound c d f s h = call_cases (λ o. SoundSheet o.sheet) c s h.within (λ n q. h) (ruled-sound c d f s h)

begin-fit : (u : ℕ) (l : List Item) → AllFit u l → AllFit u (begin l)
begin-fit u [] f = tt
begin-fit u (i ∷ l) f = (refl, f.1, begin-fit u l f.2)

begin-held : (l : List Item) → held (begin l) ≡ held l
begin-held [] = refl
begin-held (i ∷ l) = ap (λ (z : ℕ). elim i.what [ text s n ↦ n | embed e ↦ 0 | mark k v ↦ 0 ] + z) (begin-held l)

begin-occurs : (j : ℕ) (l : List Item) → occurs j (begin l) ≡ occurs j l
begin-occurs j [] = refl
begin-occurs j (i ∷ l) = ap (λ (z : ℕ). cond (eqb j i.num) 1 0 + z) (begin-occurs j l)

begin-paired : (us : List ℕ) (l : List Item) → AllPaired us l → AllPaired us (begin l)
begin-paired us [] p = tt
begin-paired us (i ∷ l) p = (p.0, begin-paired us l p.1)

begin-words : (l : List Item) → AllInWord l → AllInWord (begin l)
begin-words [] p = tt
begin-words (i ∷ l) p = (p.0, begin-words l p.1)

pub begin-sound : (s : Sheet) → SoundSheet s → SoundSheet (call begin_now s).sheet
begin-sound s h = record {
  list = record {
    fit = begin-fit (length s.units) s.items h.list.fit;
    whole = begin-held s.items ∙ h.list.whole;
    once = λ j. begin-occurs j s.items ∙ h.list.once j;
    count = length-map s.items rested ∙ h.list.count;
  };
  pairs = begin-paired s.units s.items h.pairs;
  embeds = begin-words s.items h.embeds;
  within = call-within begin_now s h.within;
}

pub call-sound : (c : Call) → FineCall c → (s : Sheet) → SoundSheet s → SoundSheet (call c s).sheet
call-sound (insert_text i us) f s h = edit-sound (insert_text i us) tt f s h
call-sound (insert_text_with i us a) f s h = edit-sound (insert_text_with i us a) tt f s h
call-sound (insert_embed i e) f s h = edit-sound (insert_embed i e) tt f s h
call-sound (insert_embed_with i e a) f s h = edit-sound (insert_embed_with i e a) tt f s h
call-sound (format_range i n a) f s h = edit-sound (format_range i n a) tt f s h
call-sound (remove_range i n) f s h = edit-sound (remove_range i n) tt f s h
call-sound (apply_delta ops) f s h = edit-sound (apply_delta ops) tt f s h
call-sound begin_now f s h = begin-sound s h

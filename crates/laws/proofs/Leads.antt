-- A call that nothing is wrong with: its ruling is reached from the sheet by the steps of `Grown`.
use Prim.Native.Nat.{ℕ, ◌+◌, ◌<◌, min}
use mathlib.Core.Path.{◌≡◌, refl, sym, ap, ◌∙◌, subst}
use mathlib.Core.Bool.{Bool, true, false, cond, not}
use mathlib.Core.List.{List, [], ◌∷◌, ◌++◌, append_assoc}
use native.Mathlib.Nat.{add-zero}
use native.Mathlib.Omega.{arith}
use lib.Dec.{leb}
use lib.ListN.{length, length-append, length-map, take, drop, drop_of_length-le}
use lib.Seq.{take-length, take-append_seam, drop-append_seam, drop-drop}
use borrow.Author.Tests.{leb-true, leb-false, not-false}
use Rattle.units.specs.Surrogates.{paired, splits_pair}
use Rattle.rules.specs.Sheet.{What, text, embed, mark, Item}
use Rattle.rules.specs.Reading.{Glyph, seen_glyphs, Op, insert, delete, retain}
use Rattle.rules.specs.Places.{whole, Move}
use Rattle.rules.specs.Edits.{by_index, plain_text, plain_embed, insert_with, format}
use Rattle.rules.specs.Sound.{Fits, AllFit}
use Rattle.rules.specs.Calls.{begin_now, Sheet, unit_at, visible_units, bad_range, too_long, Body, words, object, Call, insert_text, insert_text_with, insert_embed, insert_embed_with, format_range, remove_range, apply_delta, laid_out, new_units}
use Rattle.rules.specs.Rulings.{Ruling, seen, text_ruling, embed_ruling, ruling, Byte, FineOps, FineCall, Edit, NoFault, on}
use Rattle.laws.proofs.Lists.{or_left, or_right}
use Rattle.laws.proofs.Grown.{Grown, same, Fresh, embeds, texts}
use Rattle.laws.proofs.Steps.{FineWhat, FineList, Anyway, Cuttable, Growing, plain_text-grows, plain_embed-grows, insert-grows}
use Rattle.laws.proofs.Growth.{LaidOut, drops, keeps, index-grows, format-grows, remove-grows, delta-grows}
use Rattle.laws.proofs.Growth
use Rattle.laws.proofs.Cuts.{Clean, CutOk, clean_from}
use Rattle.laws.proofs.Pairs.{NewIn, clean-on, clean-rest}
use Rattle.laws.proofs.Rulings.{faultless}

-- from one sheet to another by steps
abbrev pub Leads : Sheet → Sheet → Type 0
Leads s t = Grown Byte (CutOk t.units) (NewIn t.units) s.items s.next (length s.units) t.items t.next (length t.units)

-- and to a ruling
abbrev pub Rules : Sheet → Ruling → Type 0
Rules s r = Grown Byte (CutOk r.units) (NewIn r.units) s.items s.next (length s.units) (whole r.place) r.place.next (length r.units)

-- what a call needs of a sheet
abbrev pub Fit : Sheet → Type 0
Fit s = AllFit (length s.units) s.items

fine-list : (l : List Item) (u : ℕ) → AllFit u l → FineList Byte l
fine-list [] u h = tt
fine-list (i ∷ l) u h = (what i.what h.1, fine-list l u h.2)
  where
    what : (w : What) → Fits u w → FineWhat Byte w
    what (text s n) f = tt
    what (embed e) f = tt
    what (mark k v) f = f.1

pub no-fault : (a b d : Bool) → ◌≡◌ {A = ℕ} (cond a 3 (cond b 2 (cond d 1 0))) 0 → (a ≡ false) × (b ≡ false) × (d ≡ false)
no-fault true b d e = absurd (omega arith)
no-fault false true d e = absurd (omega arith)
no-fault false false true e = absurd (omega arith)
no-fault false false false e = (refl, refl, refl)

zero-byte : Byte 0
zero-byte = omega arith

new-piece : (us new : List ℕ) → take (length new) (drop (length us) (us ++ new)) ≡ new
new-piece us new = ap (take (length new)) (drop-append_seam us new) ∙ take-length new

-- a move that puts any new text or embed
abbrev Puts : (What → Move) → Type 0
Puts f = (us : List ℕ) (u u' : ℕ) (w : What) → Fresh (NewIn us) w u u' → Growing Byte (CutOk us) (NewIn us) (f w) Anyway u u'

text_leads : (i : ℕ) (us : List ℕ) (f : What → Move) (s : Sheet) → Fit s → Puts f → (text_ruling i us f s).fault ≡ 0 → Rules s (text_ruling i us f s)
text_leads i [] f s fit h e = same
text_leads i (x ∷ us) f s fit h e =
    subst (λ (z : ℕ). Grown Byte (CutOk all) (NewIn all) s.items s.next (length s.units) (whole (by_index i (f w) s.items s.next)) (by_index i (f w) s.items s.next).next z)
    (sym (length-append s.units (x ∷ us)))
    (index-grows Byte (CutOk all) (NewIn all) zero-byte i (f w) Anyway
    (h all (length s.units) (length s.units + length (x ∷ us)) w (texts (length (x ∷ us)) (omega arith) (ap paired (new-piece s.units (x ∷ us)) ∙ not-false (paired (x ∷ us)) n.0, tt)))
    s.items s.next (fine-list s.items (length s.units) fit) (clean-on s.units (x ∷ us) s.items i fit n.1) tt)
  where
    all : List ℕ
    all = s.units ++ (x ∷ us)

    w : What
    w = text (length s.units) (length (x ∷ us))

    n : (not (paired (x ∷ us)) ≡ false) × (splits_pair (seen s) i ≡ false) × (false ≡ false)
    n = no-fault (not (paired (x ∷ us))) (splits_pair (seen s) i) false e

embed_leads : (i x : ℕ) (f : What → Move) (s : Sheet) → x < 4294967296 → Fit s → Puts f → (embed_ruling i x f s).fault ≡ 0 → Rules s (embed_ruling i x f s)
embed_leads i x f s k fit h e =
    index-grows Byte (CutOk s.units) (NewIn s.units) zero-byte i (f (embed x)) Anyway (h s.units (length s.units) (length s.units) (embed x) (embeds x (tt, k))) s.items s.next
    (fine-list s.items (length s.units) fit) (clean_from s.units (seen_glyphs s.items) i (no-fault false (splits_pair (seen s) i) false e).1) tt

-- a range that PAIR lets pass: it may be cut at both ends
range-start : (s : Sheet) (i n : ℕ) → bad_range (seen s) i n ≡ false → Clean (CutOk s.units) (seen_glyphs s.items) i
range-start s i n q = clean_from s.units (seen_glyphs s.items) i (or_left _ _ q)

range-end : (s : Sheet) (i n : ℕ) → bad_range (seen s) i n ≡ false → Clean (CutOk s.units) (drop i (seen_glyphs s.items)) n
range-end s i n q = clean-rest (CutOk s.units) (seen_glyphs s.items) i n (clean_from s.units (seen_glyphs s.items) (i + n) (or_right (splits_pair (seen s) i) _ q))

-- a delta's own tests say where it cuts
drop_min : (gs : List Glyph) (k : ℕ) → drop (min (length gs) k) gs ≡ drop k gs
drop_min gs k = go (leb k (length gs)) refl
  where
    go : (b : Bool) → leb k (length gs) ≡ b → drop (min (length gs) k) gs ≡ drop k gs
    go true e = let q : min (length gs) k ≡ k = omega (arith, leb-true k (length gs) e) in ap (λ (z : ℕ). drop z gs) q
    go false e = drop_of_length-le gs {i = min (length gs) k} (omega (arith, leb-false k (length gs) e)) ∙ sym (drop_of_length-le gs {i = k} (omega (arith, leb-false k (length gs) e)))

on-drop : (old : List ℕ) (l : List Item) (c n : ℕ) → drop (min (length (visible_units old l)) (c + n)) (seen_glyphs l) ≡ drop n (drop c (seen_glyphs l))
on-drop old l c n = ap (λ (z : ℕ). drop (min z (c + n)) (seen_glyphs l)) (length-map (seen_glyphs l) (unit_at old)) ∙ drop_min (seen_glyphs l) (c + n) ∙ sym (drop-drop n c (seen_glyphs l))

module _ (old all : List ℕ) (l : List Item) (clean : (n : ℕ) → splits_pair (visible_units old l) n ≡ false → Clean (CutOk all) (seen_glyphs l) n) where
  abbrev Out : List (Op Body) → ℕ → ℕ → ℕ → Type 0
  Out ops c u u' = LaidOut Byte (CutOk all) (NewIn all) (laid_out u ops) (drop c (seen_glyphs l)) u u'

  whole-text : (b : Bool) → ◌≡◌ {A = ℕ} (cond b 0 3) 0 → b ≡ true
  whole-text true e = refl
  whole-text false e = absurd (omega arith)

  may-cut : (c n : ℕ) (d : Bool) → ◌≡◌ {A = ℕ} (cond (splits_pair (visible_units old l) (c + n)) 2 (cond d 1 0)) 0 → Clean (CutOk all) (drop c (seen_glyphs l)) n
  may-cut c n d e = clean-rest (CutOk all) (seen_glyphs l) c n (clean (c + n) (no-fault false (splits_pair (visible_units old l) (c + n)) d e).1)

  onward : (ops : List (Op Body)) (c n u u' : ℕ) → Out ops (min (length (visible_units old l)) (c + n)) u u' → LaidOut Byte (CutOk all) (NewIn all) (laid_out u ops) (drop n (drop c (seen_glyphs l))) u u'
  onward ops c n u u' o = subst (λ (z : List Glyph). LaidOut Byte (CutOk all) (NewIn all) (laid_out u ops) z u u') (on-drop old l c n) o

  laid_out_lem : (ops : List (Op Body)) (c : ℕ) (pre : List ℕ) (u u' : ℕ) → FineOps ops → NoFault (visible_units old l) c ops → all ≡ pre ++ new_units ops → length pre ≡ u → u + length (new_units ops) ≡ u' → Out ops c u u'
  laid_out_lem [] c pre u u' f k d e r = subst (λ (x : ℕ). LaidOut Byte (CutOk all) (NewIn all) [] (drop c (seen_glyphs l)) u x) (sym (add-zero u) ∙ r) Growth.end
  laid_out_lem (insert (words t) a ∷ ops) c pre u u' f (on q k) d e r =
      Growth.words (length t) a (λ z. (ap paired piece ∙ whole-text (paired t) q, tt)) f.1
      (laid_out_lem ops c (pre ++ t) (u + length t) u' f.2 k (d ∙ sym (append_assoc pre t (new_units ops))) (length-append pre t ∙ ap (λ (z : ℕ). z + length t) e) (omega (arith, length-append t (new_units ops))))
    where
      piece : take (length t) (drop u all) ≡ t
      piece = ap (λ (z : ℕ). take (length t) (drop z all)) (sym e) ∙ ap (λ (z : List ℕ). take (length t) (drop (length pre) z)) d ∙ ap (take (length t)) (drop-append_seam pre (t ++ new_units ops)) ∙ take-append_seam t (new_units ops)
  laid_out_lem (insert (object x) a ∷ ops) c pre u u' f (on q k) d e r = Growth.object x a (tt, f.0) f.1 (laid_out_lem ops c pre u u' f.2 k d e r)
  laid_out_lem (delete n ∷ ops) c pre u u' f (on q k) d e r = drops n (may-cut c n (too_long (visible_units old l) c n) q) (onward ops c n u u' (laid_out_lem ops (min (length (visible_units old l)) (c + n)) pre u u' f k d e r))
  laid_out_lem (retain n a ∷ ops) c pre u u' f (on q k) d e r = keeps n a f.0 (may-cut c n false q) (onward ops c n u u' (laid_out_lem ops (min (length (visible_units old l)) (c + n)) pre u u' f.1 k d e r))

-- The ruling of every call but Begin.
pub ruling_leads : (c : Call) → Edit c → FineCall c → (s : Sheet) → Fit s → (ruling c s).fault ≡ 0 → Rules s (ruling c s)
ruling_leads begin_now d f s fit e = elim d [ ]
ruling_leads (insert_text i us) d f s fit e = text_leads i us plain_text s fit (λ us u u' w r. plain_text-grows Byte (CutOk us) (NewIn us) r) e
ruling_leads (insert_text_with i us a) d f s fit e = text_leads i us (λ w. insert_with w a) s fit (λ us u u' w r. insert-grows Byte (CutOk us) (NewIn us) r zero-byte a f) e
ruling_leads (insert_embed i x) d f s fit e = embed_leads i x plain_embed s f fit (λ us u u' w r. plain_embed-grows Byte (CutOk us) (NewIn us) r) e
ruling_leads (insert_embed_with i x a) d f s fit e = embed_leads i x (λ w. insert_with w a) s f.0 fit (λ us u u' w r. insert-grows Byte (CutOk us) (NewIn us) r zero-byte a f.1) e
ruling_leads (format_range i n a) d f s fit e =
    let q = (no-fault false (bad_range (seen s) i n) false e).1 in
    index-grows Byte (CutOk s.units) (NewIn s.units) zero-byte i (format a n) (Cuttable (CutOk s.units) n) (format-grows Byte (CutOk s.units) (NewIn s.units) a f n (length s.units)) s.items s.next
    (fine-list s.items (length s.units) fit) (range-start s i n q) (range-end s i n q)
ruling_leads (remove_range i n) d f s fit e =
    let q = (no-fault false (bad_range (seen s) i n) (too_long (seen s) i n) e).1 in
    remove-grows Byte (CutOk s.units) (NewIn s.units) zero-byte i n s.items s.next (length s.units) (fine-list s.items (length s.units) fit) (range-start s i n q) (range-end s i n q)
ruling_leads (apply_delta ops) d f s fit e =
    delta-grows Byte (CutOk all) (NewIn all) zero-byte (laid_out (length s.units) ops) s.items s.next (length s.units) (length all) (fine-list s.items (length s.units) fit)
    (laid_out_lem s.units all s.items (λ n h. clean-on s.units (new_units ops) s.items n fit h) ops 0 s.units (length s.units) (length all) f ((faultless (seen s) 0 ops).0 e) refl refl (sym (length-append s.units (new_units ops))))
  where
    all : List ℕ
    all = s.units ++ new_units ops

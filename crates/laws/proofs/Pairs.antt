-- No edit makes a piece that holds half a pair: a whole text cut where PAIR allows it is two whole texts, and appending units changes no piece.
use Prim.Native.Nat.{ℕ, zero, suc, ◌+◌, ◌-◌, ◌≤◌, ◌<◌}
use mathlib.Core.Path.{◌≡◌, refl, sym, ap, ◌∙◌, subst}
use mathlib.Core.Bool.{Bool, true, false, cond, not, ◌&&◌, false≢true}
use mathlib.Core.List.{List, [], ◌∷◌, ◌++◌, map, nil≢cons}
use native.Mathlib.Nat.{add-suc, sub-zero}
use native.Mathlib.Omega.{arith}
use lib.Dec.{leb}
use lib.ListN.{length, get_or, take, drop, length-take, length-drop, get_or-append, drop_of_length-le}
use lib.Seq.{drop-drop, take-take, get_or-take, get_or-drop, drop-append-le, take-append-le}
use borrow.Author.Tests.{leb-true, leb-false}
use Rattle.units.specs.Surrogates.{is_high, is_low, paired_from, paired, splits_pair}
use Rattle.rules.specs.Sheet.{What, text, embed, mark, Item}
use Rattle.rules.specs.Reading.{live, Glyph, unit, thing, units_of, glyphs, seen_glyphs}
use Rattle.rules.specs.Sound.{Fits, AllFit}
use Rattle.rules.specs.Calls.{unit_at, Paired, PairedWhat, AllPaired}
use Rattle.rules.specs.Rulings.{InWord, AllInWord, Byte}
use Rattle.laws.proofs.Lists.{and_left, and_right, and_both}
use Rattle.laws.proofs.Cuts.{Clean, CutOk, clean_from, clean_drop}
use Rattle.laws.proofs.Grown.{Grown, same, then, under, marked, adds, kills, halves, embeds, texts}
use Rattle.laws.proofs.Sound.{grown-used, grown-fit}

-- a paired text cut where no pair is split
split_from : (b : Bool) (xs : List ℕ) (n : ℕ) → paired_from b xs ≡ true → suc n < length xs → (is_high (get_or xs n 0) && is_low (get_or xs (suc n) 0)) ≡ false
    → (paired_from b (take (suc n) xs) ≡ true) × (paired_from false (drop (suc n) xs) ≡ true)
split_from b [] n h l c = absurd (omega arith)
split_from b (x ∷ []) n h l c = absurd (omega arith)
split_from true (x ∷ y ∷ zs) zero h l c = (and_both (is_low x) true (and_left (is_low x) _ h) refl, and_right (is_low x) _ h)
split_from false (x ∷ y ∷ zs) zero h l c = go (is_high x) refl (and_right (not (is_low x)) _ h) c
  where
    go : (b : Bool) → is_high x ≡ b → paired_from b (y ∷ zs) ≡ true → (b && is_low y) ≡ false → ((not (is_low x) && paired_from (is_high x) []) ≡ true) × (paired_from false (y ∷ zs) ≡ true)
    go true e p q = absurd (false≢true (sym q ∙ and_left (is_low y) _ p))
    go false e p q = (and_both (not (is_low x)) _ (and_left (not (is_low x)) _ h) (ap not e), p)
split_from true (x ∷ y ∷ zs) (suc n) h l c = let r = split_from false (y ∷ zs) n (and_right (is_low x) _ h) (omega arith) c in (and_both (is_low x) _ (and_left (is_low x) _ h) r.0, r.1)
split_from false (x ∷ y ∷ zs) (suc n) h l c = let r = split_from (is_high x) (y ∷ zs) n (and_right (not (is_low x)) _ h) (omega arith) c in (and_both (not (is_low x)) _ (and_left (not (is_low x)) _ h) r.0, r.1)

drop-take : (n w : ℕ) (us : List ℕ) → n ≤ w → drop n (take w us) ≡ take (w - n) (drop n us)
drop-take zero w us h = rw (sub-zero w) refl
drop-take (suc n) zero us h = absurd (omega arith)
drop-take (suc n) (suc w) [] h = go (suc w - suc n)
  where
    go : (k : ℕ) → ◌≡◌ {A = List ℕ} [] (take k [])
    go zero = refl
    go (suc k) = refl
drop-take (suc n) (suc w) (u ∷ us) h = let e : w - n ≡ suc w - suc n = omega arith in drop-take n w us (omega arith) ∙ ap (λ (k : ℕ). take k (drop n us)) e

halved : (us : List ℕ) (s n w : ℕ) → 0 < n → n < w → s + w ≤ length us → Paired us s w → CutOk us (s + n) → Paired us s n × Paired us (s + n) (w - n)
halved us s zero w z h l p c = absurd (omega arith)
halved us s (suc n) w z h l p c = (
  ap paired (sym (take-take (suc n) w (drop s us) (omega arith))) ∙ r.0,
  ap paired (ap (take (w - suc n)) (sym (drop-drop (suc n) s us)) ∙ sym (drop-take (suc n) w (drop s us) (omega arith))) ∙ r.1,
)
  where
    xs : List ℕ
    xs = take w (drop s us)

    at : (i : ℕ) → i < w → get_or xs i 0 ≡ get_or us (s + i) 0
    at i k = get_or-take w (drop s us) i 0 k ∙ get_or-drop s us i 0

    cut : (is_high (get_or xs n 0) && is_low (get_or xs (suc n) 0)) ≡ false
    cut = ap (λ (u : ℕ). is_high u && is_low (get_or xs (suc n) 0)) (at n (omega arith)) ∙ ap (λ (u : ℕ). is_high (get_or us (s + n) 0) && is_low u) (at (suc n) h ∙ ap (λ (k : ℕ). get_or us k 0) (add-suc s n)) ∙ subst (λ (k : ℕ). splits_pair us k ≡ false) (add-suc s n) c

    r : (paired_from false (take (suc n) xs) ≡ true) × (paired_from false (drop (suc n) xs) ≡ true)
    r = split_from false xs n p (omega (arith, length-take w (drop s us), length-drop s us)) cut

-- what a new text or embed has
abbrev pub NewIn : List ℕ → What → Type 0
NewIn us w = PairedWhat us w × InWord w

-- embeds stay in range
pub grown-words : (us : List ℕ) {C : ℕ → Type 0} {l l' : List Item} {m m' u u' : ℕ} → Grown Byte C (NewIn us) l m u l' m' u' → AllInWord l → AllInWord l'
grown-words us same p = p
grown-words us (then g g') p = grown-words us g' (grown-words us g p)
grown-words us (under g) p = (p.0, grown-words us g p.1)
grown-words us (marked k v i q) p = (tt, p)
grown-words us (adds (embeds x q)) p = (q.1, p)
grown-words us (adds (texts n q q')) p = (tt, p)
grown-words us (kills i q) p = p
grown-words us (halves k s w fl n q q' c) p = (tt, (tt, p.1))

-- every piece stays paired, over the units as they are in the end
pub grown-paired : (us : List ℕ) {l l' : List Item} {m m' u u' : ℕ} → Grown Byte (CutOk us) (NewIn us) l m u l' m' u' → u' ≤ length us → AllFit u l → AllPaired us l → AllPaired us l'
grown-paired us same h f p = p
grown-paired us (then g g') h f p = grown-paired us g' h (grown-fit g f) (grown-paired us g (omega (arith, grown-used g')) f p)
grown-paired us (under g) h f p = (p.0, grown-paired us g h f.2 p.1)
grown-paired us (marked k v i q) h f p = (tt, p)
grown-paired us (adds (embeds x q)) h f p = (tt, p)
grown-paired us (adds (texts n q q')) h f p = (q'.0, p)
grown-paired us (kills i q) h f p = p
grown-paired us (halves k s w fl n q q' c) h f p = let r = halved us s n w q q' (omega (arith, f.1.1)) p.0 c in (r.0, (r.1, p.1))

-- appending units changes no piece
piece-on : (us new : List ℕ) (s n : ℕ) → s + n ≤ length us → take n (drop s (us ++ new)) ≡ take n (drop s us)
piece-on us new s n h = ap (take n) (drop-append-le s us new (omega arith)) ∙ take-append-le n (drop s us) new (omega (arith, length-drop s us))

pub paired-on : (us new : List ℕ) (l : List Item) → AllFit (length us) l → AllPaired us l → AllPaired (us ++ new) l
paired-on us new [] f p = tt
paired-on us new (i ∷ l) f p = (go i.what f.1 p.0, paired-on us new l f.2 p.1)
  where
    go : (w : What) → Fits (length us) w → PairedWhat us w → PairedWhat (us ++ new) w
    go (text s n) f p = ap paired (piece-on us new s n f.1) ∙ p
    go (embed e) f p = tt
    go (mark k v) f p = tt

-- where the visible text may be cut before, it may be cut with more units
abbrev Below : ℕ → List Glyph → Type 0
Below n [] = Unit {0}
Below n (unit p ∷ gs) = (p < n) × Below n gs
Below n (thing e ∷ gs) = Below n gs

below-units : (n s k : ℕ) (gs : List Glyph) → s + k ≤ n → Below n gs → Below n (units_of s k ++ gs)
below-units n s zero gs h b = b
below-units n s (suc k) gs h b = (omega arith, below-units n (suc s) k gs (omega arith) b)

below_right : (n : ℕ) (a b : List Glyph) → Below n (a ++ b) → Below n b
below_right n [] b h = h
below_right n (unit p ∷ a) b h = below_right n a b h.1
below_right n (thing e ∷ a) b h = below_right n a b h

fit-below : (n : ℕ) (l : List Item) → AllFit n l → Below n (seen_glyphs l)
fit-below n [] f = tt
fit-below n (i ∷ l) f = go (live i.flags) i.what f.1 (fit-below n l f.2)
  where
    go : (b : Bool) (w : What) → Fits n w → Below n (seen_glyphs l) → Below n (cond b (glyphs w) [] ++ seen_glyphs l)
    go false w h ih = ih
    go true (text s k) h ih = below-units n s k (seen_glyphs l) h.1 ih
    go true (embed e) h ih = ih
    go true (mark k v) h ih = ih

pub clean-on : (us new : List ℕ) (l : List Item) (n : ℕ) → AllFit (length us) l → splits_pair (map (unit_at us) (seen_glyphs l)) n ≡ false → Clean (CutOk (us ++ new)) (seen_glyphs l) n
clean-on us new l n f h a b p e k =
    let w = below_right (length us) a (unit p ∷ unit (suc p) ∷ b) (subst (Below (length us)) e (fit-below (length us) l f)) in
    ap (λ (x : ℕ). is_high x && is_low (get_or (us ++ new) (suc p) 0)) (get_or-append us new 0 p w.0)
    ∙ ap (λ (x : ℕ). is_high (get_or us p 0) && is_low x) (get_or-append us new 0 (suc p) w.1.0)
    ∙ clean_from us (seen_glyphs l) n h a b p e k

pub clean-rest : (C : ℕ → Type 0) (gs : List Glyph) (c n : ℕ) → Clean C gs (c + n) → Clean C (drop c gs) n
clean-rest C gs c n k = go (leb c (length gs)) refl
  where
    none : (gs : List Glyph) → gs ≡ [] → Clean C gs n
    none gs e a b p q l = absurd (no a (sym e ∙ q))
      where
        no : (a : List Glyph) → [] ≡ a ++ (unit p ∷ unit (suc p) ∷ b) → ⊥
        no [] q = nil≢cons q
        no (x ∷ a) q = nil≢cons q

    go : (t : Bool) → leb c (length gs) ≡ t → Clean C (drop c gs) n
    go true e = clean_drop C gs c n (leb-true c (length gs) e) k
    go false e = none (drop c gs) (drop_of_length-le gs {i = c} (omega (arith, leb-false c (length gs) e)))

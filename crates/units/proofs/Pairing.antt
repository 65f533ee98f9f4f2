-- Whole texts: how they are read, joined and cut.
use Prim.Native.Nat.{ℕ, zero, suc, ◌+◌, ◌-◌, ◌≤◌, ◌<◌}
use mathlib.Core.Path.{◌≡◌, refl, sym, ap, ◌∙◌}
use mathlib.Core.Bool.{Bool, true, false, not, ◌&&◌, false≢true}
use mathlib.Core.List.{List, [], ◌∷◌, ◌++◌}
use native.Mathlib.Nat.{add-zero, add-suc, sub-zero}
use native.Mathlib.Omega.{arith}
use native.Mathlib.Numerals.{add-one}
use lib.ListN.{length, get_or, take, drop, drop_of_length-le, get_or-append, get_or-eq_default}
use lib.Seq.{drop-cons, drop-drop, take-take, take-nil, get_or-take, get_or-drop, get_or-append-add}
use Rattle.units.specs.Surrogates.{is_high, is_low, paired_from, paired, splits_pair}
use Rattle.units.proofs.Halves.{and_left, and_no-left, and_no-right, low_not-high}

-- ---- one unit on: it is a low one exactly where a high one stands before it
pub turn : (held : Bool) (u : ℕ) (us : List ℕ) → is_low u ≡ held → paired_from held (u ∷ us) ≡ paired_from (is_high u) us
turn true u us e = ap (λ (b : Bool). b && paired_from false us) e ∙ ap (λ (b : Bool). paired_from b us) (sym (low_not-high u e))
turn false u us e = ap (λ (b : Bool). not b && paired_from (is_high u) us) e

pub turn_off : (held : Bool) (u : ℕ) (us : List ℕ) → is_low u ≡ not held → paired_from held (u ∷ us) ≡ false
turn_off true u us e = and_no-left (is_low u) _ e
turn_off false u us e = ap (λ (b : Bool). not b && paired_from (is_high u) us) e

pub turned : (held : Bool) (u : ℕ) (us : List ℕ) → paired_from held (u ∷ us) ≡ true → is_low u ≡ held
turned true u us e = and_left (is_low u) _ e
turned false u us e = go (is_low u) (and_left (not (is_low u)) _ e)
  where
    go : (b : Bool) → not b ≡ true → b ≡ false
    go true e = absurd (false≢true e)
    go false e = refl

-- the same at an index, where a text is read by a loop
pub turn_at : (held : Bool) (us : List ℕ) (i : ℕ) → i < length us → is_low (get_or us i 0) ≡ held → paired_from held (drop i us) ≡ paired_from (is_high (get_or us i 0)) (drop (i + 1) us)
turn_at held us i h e =
    ap (paired_from held) (drop-cons us i 0 h)
    ∙ turn held (get_or us i 0) (drop (suc i) us) e
    ∙ ap (λ (k : ℕ). paired_from (is_high (get_or us i 0)) (drop k us)) (sym (add-one i))

pub turn_off-at : (held : Bool) (us : List ℕ) (i : ℕ) → i < length us → is_low (get_or us i 0) ≡ not held → paired_from held (drop i us) ≡ false
turn_off-at held us i h e = ap (paired_from held) (drop-cons us i 0 h) ∙ turn_off held (get_or us i 0) (drop (suc i) us) e

pub turn_end : (held : Bool) (us : List ℕ) (i : ℕ) → length us ≤ i → paired_from held (drop i us) ≡ not held
turn_end held us i h = ap (paired_from held) (drop_of_length-le us {i = i} h)

rest : (held : Bool) (u : ℕ) (us : List ℕ) → paired_from held (u ∷ us) ≡ true → paired_from (is_high u) us ≡ true
rest held u us e = sym (turn held u us (turned held u us e)) ∙ e

-- ---- joined: beside a whole text, a text is whole exactly where the two together are
pub append_from : (held : Bool) (xs ys : List ℕ) → paired_from held xs ≡ true → paired_from held (xs ++ ys) ≡ paired ys
append_from true [] ys e = absurd (false≢true e)
append_from false [] ys e = refl
append_from held (x ∷ xs) ys e = turn held x (xs ++ ys) (turned held x xs e) ∙ append_from (is_high x) xs ys (rest held x xs e)

pub paired-append : (xs ys : List ℕ) → paired xs ≡ true → paired (xs ++ ys) ≡ paired ys
paired-append xs ys e = append_from false xs ys e

pub paired_join : (xs ys : List ℕ) → paired xs ≡ true → paired ys ≡ true → paired (xs ++ ys) ≡ true
paired_join xs ys e f = paired-append xs ys e ∙ f

-- ---- cut: each part of a whole text is whole exactly where the cut splits no pair
cut-first : (high : Bool) (us : List ℕ) → paired_from high us ≡ true
    → (not high ≡ not (high && is_low (get_or us 0 0))) × (paired us ≡ not (high && is_low (get_or us 0 0)))
cut-first false us e = (refl, e)
cut-first true [] e = absurd (false≢true e)
cut-first true (u ∷ us) e = let l = turned true u us e in (ap not (sym l), turn_off false u us l ∙ ap not (sym l))

cut_from : (held : Bool) (n : ℕ) (us : List ℕ) → paired_from held us ≡ true
    → (paired_from held (take (suc n) us) ≡ not (splits_pair us (suc n))) × (paired (drop (suc n) us) ≡ not (splits_pair us (suc n)))
cut_from held n [] e = (e, refl)
cut_from held zero (u ∷ us) e =
    let r = cut-first (is_high u) us (rest held u us e) in
    (turn held u [] (turned held u us e) ∙ r.0, r.1)
cut_from held (suc n) (u ∷ us) e =
    let r = cut_from (is_high u) n us (rest held u us e) in
    (turn held u (take (suc n) us) (turned held u us e) ∙ r.0, r.1)

pub paired-take : (us : List ℕ) (n : ℕ) → paired us ≡ true → paired (take n us) ≡ not (splits_pair us n)
paired-take us zero e = refl
paired-take us (suc n) e = (cut_from false n us e).0

pub paired-drop : (us : List ℕ) (n : ℕ) → paired us ≡ true → paired (drop n us) ≡ not (splits_pair us n)
paired-drop us zero e = e
paired-drop us (suc n) e = (cut_from false n us e).1

pub paired-cut : (us : List ℕ) (n : ℕ) → paired us ≡ true → splits_pair us n ≡ false → (paired (take n us) ≡ true) × (paired (drop n us) ≡ true)
paired-cut us n e f = (paired-take us n e ∙ ap not f, paired-drop us n e ∙ ap not f)

-- ---- the test for a cut, of a part and of a longer text
pub splits-end : (us : List ℕ) (n : ℕ) → length us ≤ n → splits_pair us n ≡ false
splits-end us zero h = refl
splits-end us (suc n) h = and_no-right (is_high (get_or us n 0)) _ (ap is_low (get_or-eq_default us 0 {n = suc n} h))

-- two texts with the same units on both sides of a cut
alike : (us vs : List ℕ) (m n : ℕ) → get_or us m 0 ≡ get_or vs n 0 → get_or us (suc m) 0 ≡ get_or vs (suc n) 0 → splits_pair us (suc m) ≡ splits_pair vs (suc n)
alike us vs m n e f = ap (λ (u : ℕ). is_high u && is_low (get_or us (suc m) 0)) e ∙ ap (λ (u : ℕ). is_high (get_or vs n 0) && is_low u) f

pub splits-take : (us : List ℕ) (n w : ℕ) → n < w → splits_pair (take w us) n ≡ splits_pair us n
splits-take us zero w h = refl
splits-take us (suc n) w h = alike (take w us) us n n (get_or-take w us n 0 (omega arith)) (get_or-take w us (suc n) 0 h)

pub splits-drop : (us : List ℕ) (s n : ℕ) → 0 < n → splits_pair (drop s us) n ≡ splits_pair us (s + n)
splits-drop us s zero h = absurd (omega arith)
splits-drop us s (suc n) h =
    alike (drop s us) us n (s + n) (get_or-drop s us n 0) (get_or-drop s us (suc n) 0 ∙ ap (λ (k : ℕ). get_or us k 0) (add-suc s n))
    ∙ ap (splits_pair us) (sym (add-suc s n))

pub splits-append : (us vs : List ℕ) (n : ℕ) → n < length us → splits_pair (us ++ vs) n ≡ splits_pair us n
splits-append us vs zero h = refl
splits-append us vs (suc n) h = alike (us ++ vs) us n n (get_or-append us vs 0 n (omega arith)) (get_or-append us vs 0 (suc n) h)

-- behind a whole text the test is that of the rest: no pair lies across the seam
pub splits-behind : (us vs : List ℕ) (n : ℕ) → paired us ≡ true → splits_pair (us ++ vs) (length us + n) ≡ splits_pair vs n
splits-behind us vs (suc n) e =
    ap (splits_pair (us ++ vs)) (add-suc (length us) n)
    ∙ alike (us ++ vs) vs (length us + n) n (get_or-append-add us vs n 0) (ap (λ (k : ℕ). get_or (us ++ vs) k 0) (sym (add-suc (length us) n)) ∙ get_or-append-add us vs (suc n) 0)
splits-behind us vs zero e = ap (splits_pair (us ++ vs)) (add-zero (length us)) ∙ seam false us e
  where
    last : (h : Bool) (b : Bool) → not h ≡ true → (h && b) ≡ false
    last true b e = absurd (false≢true e)
    last false b e = refl

    seam : (held : Bool) (us : List ℕ) → paired_from held us ≡ true → splits_pair (us ++ vs) (length us) ≡ false
    seam held [] e = refl
    seam held (u ∷ []) e = last (is_high u) _ (rest held u [] e)
    seam held (u ∷ v ∷ us) e = seam (is_high u) (v ∷ us) (rest held u (v ∷ us) e)

-- ---- a whole piece of a text, cut inside where no pair of the text is split
pub drop-take : (n w : ℕ) (us : List ℕ) → n ≤ w → drop n (take w us) ≡ take (w - n) (drop n us)
drop-take zero w us h = ap (λ (k : ℕ). take k us) (sym (sub-zero w))
drop-take (suc n) zero us h = absurd (omega arith)
drop-take (suc n) (suc w) [] h = sym (take-nil (suc w - suc n))
drop-take (suc n) (suc w) (u ∷ us) h =
    let e : w - n ≡ suc w - suc n = omega arith in
    drop-take n w us (omega arith) ∙ ap (λ (k : ℕ). take k (drop n us)) e

pub piece_cut : (us : List ℕ) (s n w : ℕ) → 0 < n → n < w → paired (take w (drop s us)) ≡ true → splits_pair us (s + n) ≡ false
    → (paired (take n (drop s us)) ≡ true) × (paired (take (w - n) (drop (s + n) us)) ≡ true)
piece_cut us s n w z h p c =
    let r = paired-cut (take w (drop s us)) n p (splits-take (drop s us) n w h ∙ splits-drop us s n z ∙ c) in (
      ap paired (sym (take-take n w (drop s us) (omega arith))) ∙ r.0,
      ap paired (ap (take (w - n)) (sym (drop-drop n s us)) ∙ sym (drop-take n w (drop s us) (omega arith))) ∙ r.1,
    )

-- by the unit before the index, as code reads it
pub splits-high : (us : List ℕ) (n : ℕ) → 0 < n → is_high (get_or us (n - 1) 0) ≡ true → splits_pair us n ≡ is_low (get_or us n 0)
splits-high us zero h e = absurd (omega arith)
splits-high us (suc n) h e = let k : suc n - 1 ≡ n = omega arith in ap (λ (b : Bool). b && is_low (get_or us (suc n) 0)) (rw k at e)

pub splits-plain : (us : List ℕ) (n : ℕ) → 0 < n → is_high (get_or us (n - 1) 0) ≡ false → splits_pair us n ≡ false
splits-plain us zero h e = absurd (omega arith)
splits-plain us (suc n) h e = let k : suc n - 1 ≡ n = omega arith in and_no-left (is_high (get_or us n 0)) _ (rw k at e)

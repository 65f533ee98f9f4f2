-- Text without a half of a pair: each part of it is whole.
use Prim.Native.Nat.{ℕ, zero, suc, ◌+◌, ◌-◌, ◌≤◌, ◌<◌}
use native.Mathlib.Omega.{arith}
use native.Mathlib.Nat.{zero-add}
use native.Mathlib.Numerals.{add-one}
use mathlib.Core.Path.{◌≡◌, refl, sym, ap, ◌∙◌}
use mathlib.Core.Bool.{Bool, true, false, cond, not, ◌&&◌, ◌||◌}
use mathlib.Core.List.{List, [], ◌∷◌}
use lib.Dec.{eqb}
use borrow.Author.Tests.{ne_eqb}
use lib.ListN.{length, get_or, take, drop, drop_of_length-le}
use lib.Seq.{drop-cons, take-take}
use Rattle.units.specs.Surrogates.{is_high, is_low, paired_from, paired, splits_pair, half_of, halves}
use Rattle.units.proofs.Halves.{and_no-left, and_no-right, half-none}
use Rattle.units.proofs.Pairing.{drop-take}

-- ---- counted from an index on
pub halves-at : (us : List ℕ) (i : ℕ) → i < length us → halves (drop i us) ≡ half_of (get_or us i 0) + halves (drop (i + 1) us)
halves-at us i h = ap halves (drop-cons us i 0 h) ∙ ap (λ (k : ℕ). half_of (get_or us i 0) + halves (drop k us)) (sym (add-one i))

pub halves-end : (us : List ℕ) (i : ℕ) → length us ≤ i → halves (drop i us) ≡ 0
halves-end us i h = ap halves (drop_of_length-le us {i = i} h)

-- ---- looked at one by one: what is left decides, unless a half was met
abbrev pub Looked : List ℕ → ℕ → Bool → Type 0
Looked us i p = eqb (halves us) 0 ≡ (p && eqb (halves (drop i us)) 0)

module _ (us : List ℕ) (i : ℕ) (p : Bool) (k : Looked us i p) where
  module _ (l : i < length us) where
    step : {x : Bool} → (is_high (get_or us i 0) || is_low (get_or us i 0)) ≡ x → eqb (halves us) 0 ≡ (p && eqb (cond {A = ℕ} x 1 0 + halves (drop (i + 1) us)) 0)
    step e = k ∙ ap (λ (n : ℕ). p && eqb n 0) (halves-at us i l) ∙ ap (λ (x : Bool). p && eqb (cond {A = ℕ} x 1 0 + halves (drop (i + 1) us)) 0) e

    pub looked-half : (q : Bool) → (is_high (get_or us i 0) || is_low (get_or us i 0)) ≡ true → q ≡ false → Looked us (i + 1) q
    looked-half q e f = step e ∙ go p ∙ ap (λ (x : Bool). x && eqb (halves (drop (i + 1) us)) 0) (sym f)
      where
        go : (b : Bool) → (b && eqb (1 + halves (drop (i + 1) us)) 0) ≡ false
        go b = and_no-right b _ (ne_eqb (1 + halves (drop (i + 1) us)) 0 (λ z. omega (arith, z)))

    pub looked-plain : (q : Bool) → (is_high (get_or us i 0) || is_low (get_or us i 0)) ≡ false → q ≡ p → Looked us (i + 1) q
    looked-plain q e f = step e ∙ ap (λ (n : ℕ). p && eqb n 0) (zero-add (halves (drop (i + 1) us))) ∙ ap (λ (x : Bool). x && eqb (halves (drop (i + 1) us)) 0) (sym f)

  pub looked-all : length us ≤ i → p ≡ eqb (halves us) 0
  looked-all l = sym (k ∙ ap (λ (n : ℕ). p && eqb n 0) (halves-end us i l) ∙ go p)
    where
      go : (q : Bool) → (q && true) ≡ q
      go true = refl
      go false = refl

-- ---- parts
halves-drop : (us : List ℕ) (s : ℕ) → halves us ≡ 0 → halves (drop s us) ≡ 0
halves-drop us zero e = e
halves-drop [] (suc s) e = refl
halves-drop (u ∷ us) (suc s) e = halves-drop us s (omega (arith, e))

halves-take : (us : List ℕ) (n : ℕ) → halves us ≡ 0 → halves (take n us) ≡ 0
halves-take us zero e = refl
halves-take [] (suc n) e = refl
halves-take (u ∷ us) (suc n) e = omega (arith, e, halves-take us n (omega (arith, e)))

plain-whole : (us : List ℕ) → halves us ≡ 0 → paired us ≡ true
plain-whole [] e = refl
plain-whole (u ∷ us) e =
    let none : (is_high u ≡ false) × (is_low u ≡ false) = half-none u (omega (arith, e)) in
    ap (λ (b : Bool). not b && paired_from (is_high u) us) none.1 ∙ ap (λ (b : Bool). paired_from b us) none.0 ∙ plain-whole us (omega (arith, e))

plain-part : (us : List ℕ) (s n : ℕ) → halves us ≡ 0 → paired (take n (drop s us)) ≡ true
plain-part us s n e = plain-whole (take n (drop s us)) (halves-take (drop s us) n (halves-drop us s e))

pub plain-piece : (us : List ℕ) (m s n : ℕ) → s + n ≤ m → halves (take m us) ≡ 0 → paired (take n (drop s us)) ≡ true
plain-piece us m s n l e =
    ap paired (sym (ap (take n) (drop-take s m us (omega arith)) ∙ take-take n (m - s) (drop s us) (omega arith))) ∙ plain-part (take m us) s n e

-- ---- no half, no pair to cut
pub plain_at : (us : List ℕ) (i : ℕ) → halves us ≡ 0 → half_of (get_or us i 0) ≡ 0
plain_at [] i e = refl
plain_at (u ∷ us) zero e = omega (arith, e)
plain_at (u ∷ us) (suc i) e = plain_at us i (omega (arith, e))

pub plain_cuts : (us : List ℕ) (n : ℕ) → halves us ≡ 0 → splits_pair us n ≡ false
plain_cuts us zero e = refl
plain_cuts us (suc n) e = and_no-left _ _ (half-none (get_or us n 0) (plain_at us n e)).0

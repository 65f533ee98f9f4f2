-- Digits, and the numbers that they make.
use mathlib.Core.Path.{◌≡◌, refl, sym, ap, ◌∙◌}
use mathlib.Core.Bool.{Bool, true, false, cond, ◌&&◌}
use mathlib.Core.List.{List, [], ◌∷◌}
use Prim.Native.Nat.{ℕ, ◌+◌, ◌*◌, ◌≤◌, ◌<◌}
use native.Mathlib.Omega.{arith}
use native.Mathlib.Numerals.{add-one}
use native.Mathlib.Nat.{le-mul_of_pos_right}
use borrow.Author.Tests.{ltb-true, lt-ltb, le-ltb, ne_eqb}
use lib.Dec.{ltb}
use lib.ListN.{length, get_or, drop, drop_of_length-le}
use lib.Seq.{drop-cons}
use Rattle.words.specs.Numbers.{digit_of, all_digits, value_from, number_from, number_of}
use Rattle.std.specs.Prelude.{Option, Some, None}
use Rattle.std.specs.Char.{digit_value}
use Rattle.std.proofs.lemmas.Bool.Decides.{nat_tests}

module _ (b : ℕ) where
  pub digit-some : digit_value b < 16 → digit_of b ≡ digit_value b
  digit-some h = grind (arith, nat_tests)

  pub digit-none : (digit_value b < 16 → ⊥) → digit_of b ≡ 16
  digit-none h = grind (arith, nat_tests)

pub grows : (base a : ℕ) → 0 < base → (w : List ℕ) → a ≤ value_from base a w
unfolding value_from
grows base a p [] = omega arith
grows base a p (b ∷ bs) = omega (arith, grows base (a * base + digit_of b) p bs, le-mul_of_pos_right a p)

module _ (base a : ℕ) where
  step : (b : ℕ) (bs : List ℕ) → ltb (digit_of b) base ≡ true → number_from base a (b ∷ bs) ≡ number_from base (a * base + digit_of b) bs
  unfolding number_from all_digits value_from
  step b bs p = rw p

  wrong : (b : ℕ) (bs : List ℕ) → ltb (digit_of b) base ≡ false → number_from base a (b ∷ bs) ≡ None
  unfolding number_from all_digits
  wrong b bs p = rw p

  over : (w : List ℕ) → 0 < base → 4294967295 < a → number_from base a w ≡ None
  unfolding number_from
  over w p h = go (all_digits base w) (le-ltb (value_from base a w) 4294967296 (omega (arith, grows base a p w)))
    where
      go : (t : Bool) → ltb (value_from base a w) 4294967296 ≡ false → cond (t && ltb (value_from base a w) 4294967296) (Some (value_from base a w)) None ≡ None
      go true e = rw e
      go false e = refl

  whole : a ≤ 4294967295 → Some a ≡ number_from base a []
  unfolding number_from all_digits value_from
  whole h = simp (lt-ltb a 4294967296 (omega arith))

-- The walk over a word: what the digits that are left add to the value so far is what the whole word says.
pub record Reading (base : ℕ) (w : List ℕ) (value i : ℕ) : Type 0 where
  pub some : length w ≡ 0 → ⊥
  pub small : value ≤ 4294967295
  pub within : i ≤ length w
  pub rest : number_from base value (drop i w) ≡ number_from base 0 w

module _ {base : ℕ} {w : List ℕ} {value i : ℕ} (r : Reading base w value i) where
  answered : (n : Option ℕ) → n ≡ number_from base value (drop i w) → n ≡ number_of base w
  answered n e = simp (ne_eqb (length w) 0 r.some) (e ∙ r.rest)

  pub reading-end : length w ≤ i → Some value ≡ number_of base w
  reading-end h = answered _ (whole base value r.small ∙ ap (number_from base value) (sym (drop_of_length-le w h)))

  module _ (h : i < length w) where
    split : drop i w ≡ get_or w i 0 ∷ drop (i + 1) w
    split = rw (add-one, drop-cons w i 0 h)

    stray : base ≤ digit_of (get_or w i 0) → None ≡ number_of base w
    stray l = answered _ (sym (ap (number_from base value) split ∙ wrong base value _ _ (le-ltb (digit_of (get_or w i 0)) base l)))

    module _ {x : ℕ} (c : x ≡ get_or w i 0) where
      pub reading-stray : base ≤ 16 → (digit_value x < 16 → ⊥) → None ≡ number_of base w
      reading-stray l n = let e : digit_of (get_or w i 0) ≡ 16 = rw (← c) (digit-none x n) in stray (omega arith)

      module _ {d : ℕ} (v : (digit_value x < 16) × (d ≡ digit_value x)) where
        shown : digit_of (get_or w i 0) ≡ d
        shown = rw (← c) (digit-some x v.0 ∙ sym v.1)

        pub reading-wrong : base ≤ d → None ≡ number_of base w
        reading-wrong l = stray (rw shown l)

        turn : d < base → number_from base value (drop i w) ≡ number_from base (value * base + d) (drop (i + 1) w)
        turn l =
            ap (number_from base value) split
            ∙ step base value _ _ (lt-ltb (digit_of (get_or w i 0)) base (rw shown l))
            ∙ ap (λ (y : ℕ). number_from base (value * base + y) (drop (i + 1) w)) shown

        pub reading-over : 0 < base → d < base → 4294967295 < value * base + d → None ≡ number_of base w
        reading-over p l o = answered _ (sym (turn l ∙ over base _ _ p o))

        pub reading_step : d < base → {n : ℕ} → n ≡ value * base + d → n < 4294967296 → Reading base w n (i + 1)
        reading_step l e s = record { some = r.some; small = omega arith; within = omega arith; rest = rw e (sym (turn l) ∙ r.rest) }

both : (a b : Bool) → (a && b) ≡ true → (a ≡ true) × (b ≡ true)
both true b e = (refl, e)
both false b e = cc

-- What is read is the value of digits.
pub number-parts : (base a v : ℕ) (w : List ℕ) → number_from base a w ≡ Some v → (all_digits base w ≡ true) × (value_from base a w ≡ v)
unfolding number_from
number-parts base a v w e = go (all_digits base w) (ltb (value_from base a w) 4294967296) refl e
  where
    go : (t s : Bool) → all_digits base w ≡ t → cond (t && s) (Some (value_from base a w)) None ≡ Some v → (all_digits base w ≡ true) × (value_from base a w ≡ v)
    go true true d q = (d, cc)
    go true false d q = cc
    go false s d q = cc

digit_lt : (base b : ℕ) (bs : List ℕ) → all_digits base (b ∷ bs) ≡ true → (digit_of b < base) × (all_digits base bs ≡ true)
unfolding all_digits
digit_lt base b bs e = let p = both _ _ e in (ltb-true (digit_of b) base p.0, p.1)

pub unit-small : (w : List ℕ) (v : ℕ) → length w ≡ 4 → number_of 16 w ≡ Some v → v < 65536
unfolding value_from
unit-small (a ∷ b ∷ c ∷ d ∷ []) v l e =
    let p = number-parts 16 0 v (a ∷ b ∷ c ∷ d ∷ []) e in
    let da = digit_lt 16 a _ p.0 in
    let db = digit_lt 16 b _ da.1 in
    let dc = digit_lt 16 c _ db.1 in
    let dd = digit_lt 16 d _ dc.1 in
    omega (arith, da.0, db.0, dc.0, dd.0, p.1)
unit-small [] v l e = absurd (omega arith)
unit-small (a ∷ []) v l e = absurd (omega arith)
unit-small (a ∷ b ∷ []) v l e = absurd (omega arith)
unit-small (a ∷ b ∷ c ∷ []) v l e = absurd (omega arith)
unit-small (a ∷ b ∷ c ∷ d ∷ f ∷ g) v l e = absurd (omega arith)

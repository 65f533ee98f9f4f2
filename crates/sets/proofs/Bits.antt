-- The laws of a mask's bits, each for any key: setting one that is clear, clearing one that is set, the lowest that is set, and that the bits settle the mask.
use mathlib.Core.Path.{◌≡◌, refl, sym, ap, ◌∙◌}
use Prim.Native.Nat.{ℕ, zero, suc, ◌+◌, ◌-◌, ◌/◌, ◌%◌, ◌^◌, ◌≤◌, ◌<◌}
use native.Mathlib.Nat.{pow-suc, le_of_suc-le-suc, not-suc-le-zero, zero-lt-suc}
use native.Mathlib.Numerals.{one-add}
use native.Mathlib.Omega.{arith}
use lib.Pow.{pow_pos, shr-shr}
use lib.Count.{count_trailing_zeros, under}
use lib.Dec.{eqb}
use mathlib.Core.Bool.{Bool, true, false, cond}
use borrow.Author.Tests.{eqb-true, eqb-false, eq-eqb, ne_eqb}
use Rattle.sets.specs.Sets.{at}
use Rattle.sets.specs.Bits.{bit, rest_of, Rest, BitIs, BitSet}

-- how the code computes it: (m >> k) % 2
pub bit_shift : (m k : ℕ) → m / 2 ^ k % 2 ≡ bit m k
unfolding bit
bit_shift m zero = omega arith
bit_shift m (suc k) =
    ap (λ (x : ℕ). x % 2) (ap (λ (x : ℕ). m / 2 ^ x) (sym (one-add k)) ∙ sym (shr-shr m 1 k)) ∙ bit_shift (m / 2) k

pub bit-lt : (m k : ℕ) → bit m k < 2
unfolding bit
bit-lt m zero = omega arith
bit-lt m (suc k) = bit-lt (m / 2) k

pub bit-zero : (k : ℕ) → bit 0 k ≡ 0
unfolding bit
bit-zero zero = refl
bit-zero (suc k) = bit-zero k

-- ---- setting and clearing

half_add : (m k : ℕ) → (m + 2 ^ suc k) / 2 ≡ m / 2 + 2 ^ k
half_add m k = omega (arith, pow-suc 2 k)

half_sub : (m k : ℕ) → (m - 2 ^ suc k) / 2 ≡ m / 2 - 2 ^ k
half_sub m k = omega (arith, pow-suc 2 k)

pub bit-set-same : (m k : ℕ) → bit m k ≡ 0 → bit (m + 2 ^ k) k ≡ 1
unfolding bit
bit-set-same m zero h = omega arith
bit-set-same m (suc k) h = rw half_add (bit-set-same (m / 2) k h)

pub bit-set-other : (m k j : ℕ) → bit m k ≡ 0 → (j ≡ k → ⊥) → bit (m + 2 ^ k) j ≡ bit m j
unfolding bit
bit-set-other m zero zero h n = absurd (n refl)
bit-set-other m zero (suc j) h n = ap (λ (x : ℕ). bit x j) (omega arith)
bit-set-other m (suc k) zero h n = omega (arith, pow-suc 2 k)
bit-set-other m (suc k) (suc j) h n = rw half_add (bit-set-other (m / 2) k j h (λ e. n (ap suc e)))

pub bit_le : (m k : ℕ) → bit m k ≡ 1 → 2 ^ k ≤ m
unfolding bit
bit_le m zero h = omega arith
bit_le m (suc k) h = omega (arith, pow-suc 2 k, bit_le (m / 2) k h)

pub bit_clear-same : (m k : ℕ) → bit m k ≡ 1 → bit (m - 2 ^ k) k ≡ 0
unfolding bit
bit_clear-same m zero h = omega arith
bit_clear-same m (suc k) h = rw half_sub (bit_clear-same (m / 2) k h)

pub bit_clear-other : (m k j : ℕ) → bit m k ≡ 1 → (j ≡ k → ⊥) → bit (m - 2 ^ k) j ≡ bit m j
unfolding bit
bit_clear-other m zero zero h n = absurd (n refl)
bit_clear-other m zero (suc j) h n = ap (λ (x : ℕ). bit x j) (omega arith)
bit_clear-other m (suc k) zero h n = omega (arith, pow-suc 2 k, bit_le (m / 2) k h)
bit_clear-other m (suc k) (suc j) h n = rw half_sub (bit_clear-other (m / 2) k j h (λ e. n (ap suc e)))

-- a bit that is clear is set within the width
pub bit-set-lt : (w m k : ℕ) → m < 2 ^ w → k < w → bit m k ≡ 0 → m + 2 ^ k < 2 ^ w
unfolding bit
bit-set-lt zero m k l g h = absurd (not-suc-le-zero g)
bit-set-lt (suc w) m zero l g h = omega (arith, pow-suc 2 w)
bit-set-lt (suc w) m (suc k) l g h =
    omega (arith, pow-suc 2 w, pow-suc 2 k, bit-set-lt w (m / 2) k (omega (arith, pow-suc 2 w)) (le_of_suc-le-suc g) h)

-- no bit stands past the width
pub bit_high : (w m k : ℕ) → m < 2 ^ w → w ≤ k → bit m k ≡ 0
unfolding bit
bit_high zero m k l g = ap (λ (x : ℕ). bit x k) (omega arith) ∙ bit-zero k
bit_high (suc w) m zero l g = absurd (not-suc-le-zero g)
bit_high (suc w) m (suc k) l g = bit_high w (m / 2) k (omega (arith, pow-suc 2 w)) (le_of_suc-le-suc g)

-- ---- the lowest bit that is set

-- A `where` helper takes the digit and the law one digit further on.
pub lowest_set : (w m : ℕ) → count_trailing_zeros w m < w → bit m (count_trailing_zeros w m) ≡ 1
unfolding bit count_trailing_zeros
lowest_set zero m h = absurd (not-suc-le-zero h)
lowest_set (suc w) m h = go (m % 2) refl (lowest_set w (m / 2)) h
  where
    go : (d : ℕ) → m % 2 ≡ d
        → (count_trailing_zeros w (m / 2) < w → bit (m / 2) (count_trailing_zeros w (m / 2)) ≡ 1)
        → under d (count_trailing_zeros w (m / 2)) < suc w → bit m (under d (count_trailing_zeros w (m / 2))) ≡ 1
    go zero e ih l = ih (le_of_suc-le-suc l)
    go (suc d) e ih l = omega arith

pub lowest-least : (w m j : ℕ) → j < count_trailing_zeros w m → bit m j ≡ 0
unfolding bit count_trailing_zeros
lowest-least zero m j h = absurd (not-suc-le-zero h)
lowest-least (suc w) m j h = go j (m % 2) refl (lowest-least w (m / 2)) h
  where
    go : (j d : ℕ) → m % 2 ≡ d → ((i : ℕ) → i < count_trailing_zeros w (m / 2) → bit (m / 2) i ≡ 0)
        → j < under d (count_trailing_zeros w (m / 2)) → bit m j ≡ 0
    go zero zero e ih l = e
    go (suc j) zero e ih l = ih j (le_of_suc-le-suc l)
    go zero (suc d) e ih l = absurd (not-suc-le-zero l)
    go (suc j) (suc d) e ih l = absurd (not-suc-le-zero l)

pub lowest-lt : (w m : ℕ) → m < 2 ^ w → (m ≡ 0 → ⊥) → count_trailing_zeros w m < w
unfolding count_trailing_zeros
lowest-lt zero m l n = absurd (n (omega arith))
lowest-lt (suc w) m l n = go (m % 2) refl (lowest-lt w (m / 2) (omega (arith, pow-suc 2 w)))
  where
    go : (d : ℕ) → m % 2 ≡ d → ((m / 2 ≡ 0 → ⊥) → count_trailing_zeros w (m / 2) < w)
        → under d (count_trailing_zeros w (m / 2)) < suc w
    go zero e ih = omega (arith, ih (λ z. n (omega arith)))
    go (suc d) e ih = omega arith

-- ---- a mask is settled by its bits

pub bits-settle : (w m n : ℕ) → m < 2 ^ w → n < 2 ^ w → ((k : ℕ) → k < w → bit m k ≡ bit n k) → m ≡ n
unfolding bit
bits-settle zero m n l g h = omega arith
bits-settle (suc w) m n l g h =
    omega (
      arith,
      h 0 (zero-lt-suc w),
      bits-settle w (m / 2) (n / 2) (omega (arith, pow-suc 2 w)) (omega (arith, pow-suc 2 w)) (λ k i. h (suc k) (omega arith)),
    )

-- ---- one key

-- what holds at k, and at any other key, holds at any key
pub at_key : {A : Type 0} (k : ℕ) (s : A) (f g : ℕ → A) → g k ≡ s → ((j : ℕ) → (j ≡ k → ⊥) → g j ≡ f j) → (j : ℕ) → g j ≡ at k s f j
at_key k s f g same other j = go (eqb j k) refl
  where
    go : (t : Bool) → eqb j k ≡ t → g j ≡ cond t s (f j)
    go true e = ap g (eqb-true j k e) ∙ same
    go false e = other j (eqb-false j k e)

pub at_same : {A : Type 0} (k : ℕ) (s : A) (f : ℕ → A) → at k s f k ≡ s
at_same k s f = rw (eq-eqb k k refl)

pub at_other : {A : Type 0} (k j : ℕ) (s : A) (f : ℕ → A) → (j ≡ k → ⊥) → at k s f j ≡ f j
at_other k j s f n = rw (ne_eqb j k n)

-- ---- what the code's steps do to a mask

pub bit_is : (m k : ℕ) → BitIs m k (m / 2 ^ k % 2)
bit_is m k = record { is = bit_shift m k; lt = omega arith }

pub set_already : (m k : ℕ) → bit m k ≡ 1 → BitSet m k m
set_already m k e = record { each = at_key k 1 (bit m) (bit m) e (λ j n. refl) }

pub set_now : (m k : ℕ) → bit m k ≡ 0 → BitSet m k (m + 2 ^ k)
set_now m k e = record { each = at_key k 1 (bit m) (bit (m + 2 ^ k)) (bit-set-same m k e) (λ j n. bit-set-other m k j e n) }

-- The lowest bit of a mask that is not 0.
pub record Low (m k : ℕ) : Type 0 where
  pub lt : k < 16
  pub set : bit m k ≡ 1
  pub le : 2 ^ k ≤ m

pub low : (m : ℕ) → m < 2 ^ 16 → (m ≡ 0 → ⊥) → Low m (count_trailing_zeros 16 m)
low m l n =
    let h = lowest-lt 16 m l n in
    let s = lowest_set 16 m h in
    record { lt = h; set = s; le = bit_le m (count_trailing_zeros 16 m) s }

pub rest-of : (m r : ℕ) → Low m (count_trailing_zeros 16 m) → r ≡ rest_of m → Rest m r
rest-of m r o e = record { is = e; less = omega (arith, o.le, pow_pos (count_trailing_zeros 16 m)) }

-- 0 has no key, and stays.
pub rest-none : (m : ℕ) → m ≡ 0 → Rest m m
rest-none m e = record { is = omega arith; less = omega arith }

-- The keys of a mask in ascending order, how a walk by the lowest bit meets them, and tests of every key.
use mathlib.Core.Path.{◌≡◌, refl, sym, ap, ap₂, ◌∙◌}
use mathlib.Core.Bool.{Bool, true, false, cond, not, ◌&&◌, false≢true}
use mathlib.Core.List.{List, [], ◌∷◌}
use Prim.Native.Nat.{ℕ, zero, suc, ◌+◌, ◌-◌, ◌/◌, ◌%◌, ◌^◌, ◌≤◌, ◌<◌}
use native.Mathlib.Nat.{pow-suc, not-suc-le-zero, zero-lt-suc}
use native.Mathlib.Omega.{arith}
use lib.Count.{ones, ones_step, ones-le, count_trailing_zeros, under}
use lib.Dec.{eqb}
use lib.ListN.{length}
use borrow.Author.Tests.{eqb-true, eqb-false}
use Rattle.std.specs.Prelude.{Some, None}
use Rattle.sets.specs.Sets.{Slot, absent, is, Set, is_absent, keys, those, present}
use Rattle.sets.specs.Bits.{bit, keys_of, first_key, rest_of, Rest}

-- ---- the sixteen keys, as a count

-- of n keys counted from i, those where f holds
unfoldable pub picks : ℕ → ℕ → (ℕ → Bool) → List ℕ
picks zero i f = []
picks (suc n) i f = cond (f 0) (i ∷ picks n (suc i) (λ k. f (suc k))) (picks n (suc i) (λ k. f (suc k)))

pub those_picks : (p : ℕ → Bool) → those p keys ≡ picks 16 0 p
unfolding keys picks
those_picks p = refl

pub picks_ext : (n i : ℕ) (f g : ℕ → Bool) → ((k : ℕ) → k < n → f k ≡ g k) → picks n i f ≡ picks n i g
unfolding picks
picks_ext zero i f g h = refl
picks_ext (suc n) i f g h =
    let e : f 0 ≡ g 0 = h 0 (zero-lt-suc n) in
    let t : picks n (suc i) (λ k. f (suc k)) ≡ picks n (suc i) (λ k. g (suc k)) =
    picks_ext n (suc i) (λ k. f (suc k)) (λ k. g (suc k)) (λ k l. h (suc k) (omega arith)) in
    rw (e, t)

-- does f hold at each of n keys?
unfoldable pub every : ℕ → (ℕ → Bool) → Bool
every zero f = true
every (suc n) f = f 0 && every n (λ k. f (suc k))

pub every-at : (n : ℕ) (f : ℕ → Bool) → every n f ≡ true → (k : ℕ) → k < n → f k ≡ true
unfolding every
every-at zero f e k l = absurd (not-suc-le-zero l)
every-at (suc n) f e k l = go (f 0) refl e k l (every-at n (λ k. f (suc k)))
  where
    go : (b : Bool) → f 0 ≡ b → (b && every n (λ k. f (suc k))) ≡ true → (k : ℕ) → k < suc n
        → (every n (λ k. f (suc k)) ≡ true → (k : ℕ) → k < n → f (suc k) ≡ true) → f k ≡ true
    go true q e zero l ih = q
    go true q e (suc k) l ih = ih e k (omega arith)
    go false q e k l ih = absurd (false≢true e)

pub at_every : (n : ℕ) (f : ℕ → Bool) → ((k : ℕ) → k < n → f k ≡ true) → every n f ≡ true
unfolding every
at_every zero f h = refl
at_every (suc n) f h = rw (h 0 (zero-lt-suc n)) (at_every n (λ k. f (suc k)) (λ k l. h (suc k) (omega arith)))

pub every_ext : (n : ℕ) (f g : ℕ → Bool) → ((k : ℕ) → k < n → f k ≡ g k) → every n f ≡ every n g
unfolding every
every_ext zero f g h = refl
every_ext (suc n) f g h =
    ap₂ ◌&&◌ (h 0 (zero-lt-suc n)) (every_ext n (λ k. f (suc k)) (λ k. g (suc k)) (λ k l. h (suc k) (omega arith)))

-- two tests that come true together are one
pub both_ways : (a b : Bool) → (a ≡ true → b ≡ true) → (b ≡ true → a ≡ true) → a ≡ b
both_ways true b f g = sym (f refl)
both_ways false true f g = g refl
both_ways false false f g = refl

-- ---- the keys of a mask

none : (n i : ℕ) → picks n i (λ k. eqb (bit 0 k) 1) ≡ []
unfolding picks bit
none zero i = refl
none (suc n) i = none n (suc i)

pub keys_none : keys_of 0 ≡ []
unfolding keys_of
keys_none = those_picks (λ k. eqb (bit 0 k) 1) ∙ none 16 0

step : (n i m : ℕ) → m < 2 ^ n → (m ≡ 0 → ⊥)
    → picks n i (λ k. eqb (bit m k) 1) ≡ (i + count_trailing_zeros n m) ∷ picks n i (λ k. eqb (bit (m - 2 ^ count_trailing_zeros n m) k) 1)
unfolding picks bit count_trailing_zeros
step zero i m l n = absurd (n (omega arith))
step (suc w) i m l n = go (m % 2) refl (step w (suc i) (m / 2) (omega (arith, pow-suc 2 w)))
  where
    tail : ℕ → List ℕ
    tail x = picks w (suc i) (λ k. eqb (bit x k) 1)

    go : (d : ℕ) → m % 2 ≡ d
        → ((m / 2 ≡ 0 → ⊥) → tail (m / 2) ≡ (suc i + count_trailing_zeros w (m / 2)) ∷ tail (m / 2 - 2 ^ count_trailing_zeros w (m / 2)))
        → cond (eqb d 1) (i ∷ tail (m / 2)) (tail (m / 2))
        ≡ (i + under d (count_trailing_zeros w (m / 2))) ∷ picks (suc w) i (λ k. eqb (bit (m - 2 ^ under d (count_trailing_zeros w (m / 2))) k) 1)
    go zero e ih =
        let t = count_trailing_zeros w (m / 2) in
        let even : (m - 2 ^ suc t) % 2 ≡ 0 = omega (arith, pow-suc 2 t) in
        let half : (m - 2 ^ suc t) / 2 ≡ m / 2 - 2 ^ t = omega (arith, pow-suc 2 t) in
        let at : suc i + t ≡ i + suc t = omega arith in
        rw (even, half) (ih (λ z. n (omega arith)) ∙ rw at)
    go (suc zero) e ih =
        let even : (m - 1) % 2 ≡ 0 = omega arith in
        let half : (m - 1) / 2 ≡ m / 2 = omega arith in
        let at : i + 0 ≡ i = omega arith in
        rw (even, half, at)
    go (suc (suc d)) e ih = absurd (omega arith)

-- the lowest is the first, and the rest of the mask has the others
pub keys-next : (m : ℕ) → m < 2 ^ 16 → (m ≡ 0 → ⊥) → keys_of m ≡ count_trailing_zeros 16 m ∷ keys_of (rest_of m)
unfolding keys_of
keys-next m l n =
    let at : 0 + count_trailing_zeros 16 m ≡ count_trailing_zeros 16 m = omega arith in
    those_picks (λ k. eqb (bit m k) 1) ∙ step 16 0 m l n ∙ rw at (ap (λ (x : List ℕ). count_trailing_zeros 16 m ∷ x) (sym (those_picks (λ k. eqb (bit (rest_of m) k) 1))))

-- ---- a walk by `lowest` and `rest`, from outside the crate

pub first-at : (m k : ℕ) → m < 2 ^ 16 → first_key (keys_of m) ≡ Some k → (m ≡ 0 → ⊥) × (k ≡ count_trailing_zeros 16 m)
first-at m k l e = (full, same)
  where
    full : m ≡ 0 → ⊥
    full z = let q : Some k ≡ None = sym e ∙ rw (z, keys_none) in let o : ◌≡◌ {A = ℕ} 0 1 = cc in omega arith

    same : k ≡ count_trailing_zeros 16 m
    same = let q : first_key (keys_of m) ≡ Some (count_trailing_zeros 16 m) = rw (keys-next m l full) in cc

pub first-nothing : (m : ℕ) → m < 2 ^ 16 → first_key (keys_of m) ≡ None → m ≡ 0
first-nothing m l e = go (eqb m 0) refl
  where
    go : (t : Bool) → eqb m 0 ≡ t → m ≡ 0
    go true q = eqb-true m 0 q
    go false q =
        let f : first_key (keys_of m) ≡ Some (count_trailing_zeros 16 m) = rw (keys-next m l (eqb-false m 0 q)) in
        let o : ◌≡◌ {A = ℕ} 0 1 = cc in
        absurd (omega arith)

pub keys-rest : (m k r : ℕ) → m < 2 ^ 16 → first_key (keys_of m) ≡ Some k → Rest m r → keys_of m ≡ k ∷ keys_of r
keys-rest m k r l e q = let f = first-at m k l e in keys-next m l f.0 ∙ rw (f.1, q.is)

-- ---- how many there are

count : (n i m : ℕ) → m < 2 ^ n → length (picks n i (λ k. eqb (bit m k) 1)) ≡ ones m
unfolding picks bit ones
count zero i m l = let e : m ≡ 0 = omega arith in sym (ap ones e)
count (suc n) i m l = go (m % 2) refl (count n (suc i) (m / 2) (omega (arith, pow-suc 2 n)))
  where
    go : (d : ℕ) → m % 2 ≡ d → length (picks n (suc i) (λ k. eqb (bit (m / 2) k) 1)) ≡ ones (m / 2)
        → length (cond (eqb d 1) (i ∷ picks n (suc i) (λ k. eqb (bit (m / 2) k) 1)) (picks n (suc i) (λ k. eqb (bit (m / 2) k) 1))) ≡ ones m
    go zero e ih = omega (arith, ones_step m)
    go (suc zero) e ih = omega (arith, ones_step m)
    go (suc (suc d)) e ih = absurd (omega arith)

pub count-keys : (m : ℕ) → m < 2 ^ 16 → ones m ≡ length (keys_of m)
unfolding keys_of
count-keys m l = sym (ap length (those_picks (λ k. eqb (bit m k) 1)) ∙ count 16 0 m l)

pub keys-le : (m : ℕ) → m < 2 ^ 16 → length (keys_of m) ≤ 16
keys-le m l = omega (arith, count-keys m l, ones-le 16 m l)

-- ---- what is done for each key of a set, in order

abbrev pub each : {B : Type 0} → (ℕ → Slot → B → B) → B → List ℕ → Set → B
each f z [] s = z
each f z (k ∷ ks) s = f k (s k) (each f z ks s)

-- where nothing is done for an absent key, the keys that are there will do
pub each-present : {B : Type 0} (f : ℕ → Slot → B → B) (z : B) → ((k : ℕ) (b : B) → f k absent b ≡ b) → (ks : List ℕ) (s : Set)
    → each f z ks s ≡ each f z (present ks s) s
each-present f z h [] s = refl
each-present {B} f z h (k ∷ ks) s = go (s k) refl (each-present f z h ks s)
  where
    go : (x : Slot) → s k ≡ x → each f z ks s ≡ each f z (present ks s) s
        → f k x (each f z ks s) ≡ each f z (cond (not (is_absent x)) (k ∷ present ks s) (present ks s)) s
    go absent e ih = h k (each f z ks s) ∙ ih
    go (is v) e ih = ap (f k (is v)) ih ∙ ap (λ (x : Slot). f k x (each f z (present ks s) s)) (sym e)

-- The laws of sound links: what a step of the walk says, that the numbers met are below the bound, and that no number is met twice. Assumes nothing.
use Prim.Native.Nat.{ℕ, zero, suc, ◌-◌, ◌<◌, ◌≤◌}
use native.Mathlib.Omega.{arith}
use mathlib.Core.Path.{◌≡◌, refl, sym, ap, ◌∙◌}
use mathlib.Core.Bool.{Bool, true, false, cond}
use mathlib.Core.List.{List, [], ◌∷◌}
use lib.ListN.{length}
use lib.Dec.{eqb, ltb}
use borrow.Author.Tests.{lt-ltb, le-ltb, eqb-true, ltb-true}
use Rattle.rules.specs.Sheet.{Item}
use Rattle.layout.specs.Chain.{END, item_at, next_at, chain, walks, head_or}

-- a test and then another
pub both : (a b : Bool) → cond a b false ≡ true → (a ≡ true) × (b ≡ true)
both true b p = (refl, p)
both false b p = (p, cc)

-- ---- one step, as the loop takes it
pub walks-step : (b k : ℕ) (m : List ℕ) (s : ℕ) → 0 < k → s < b → walks b k m s ≡ walks b (k - 1) m (next_at m s)
unfolding walks
walks-step b zero m s h l = absurd (omega arith)
walks-step b (suc k) m s h l =
    let e : suc k - 1 ≡ k = omega arith in
    rw (e, lt-ltb s b l)

pub walks_out : (b k : ℕ) (m : List ℕ) (s : ℕ) → 0 < k → b ≤ s → walks b k m s ≡ false
unfolding walks
walks_out b zero m s h l = absurd (omega arith)
walks_out b (suc k) m s h l = rw (le-ltb s b l)

pub walks-end : (b k : ℕ) (m : List ℕ) (s : ℕ) → k ≤ 0 → walks b k m s ≡ eqb s END
unfolding walks
walks-end b zero m s h = refl
walks-end b (suc k) m s h = absurd (omega arith)

-- a walk that is sound: the first number is below the bound, and the rest is a walk
pub walks_parts : (b f : ℕ) (m : List ℕ) (s : ℕ) → walks b (suc f) m s ≡ true → (s < b) × (walks b f m (next_at m s) ≡ true)
unfolding walks
walks_parts b f m s p =
    let q = both (ltb s b) (walks b f m (next_at m s)) p in
    (ltb-true s b q.0, q.1)

pub walks-zero : (b : ℕ) (m : List ℕ) (s : ℕ) → walks b zero m s ≡ true → s ≡ END
unfolding walks
walks-zero b m s p = eqb-true s END p

-- the same at a number of steps that is not 0, as a loop has it
pub walks-lt : (b k : ℕ) (m : List ℕ) (s : ℕ) → 0 < k → walks b k m s ≡ true → s < b
walks-lt b zero m s h p = absurd (omega arith)
walks-lt b (suc k) m s h p = (walks_parts b k m s p).0

pub walks_next : (b k : ℕ) (m : List ℕ) (s : ℕ) → 0 < k → walks b k m s ≡ true → walks b (k - 1) m (next_at m s) ≡ true
walks_next b k m s h p = sym (walks-step b k m s h (walks-lt b k m s h p)) ∙ p

-- ---- no number twice
-- x is the number of no item of the list
abbrev pub Off : ℕ → List Item → Type 0
Off x [] = Unit
Off x (y ∷ ys) = (x ≡ y.num → ⊥) × Off x ys

abbrev pub Distinct : List Item → Type 0
Distinct [] = Unit
Distinct (y ∷ ys) = Off y.num ys × Distinct ys

module _ (b : ℕ) (m : List ℕ) (few : b ≤ END) where
  -- how many steps are left is a function of the number
  pub left_is : (f g s : ℕ) → walks b f m s ≡ true → walks b g m s ≡ true → f ≡ g
  left_is zero zero s p q = refl
  left_is zero (suc g) s p q =
      let e = walks-zero b m s p in
      let l = (walks_parts b g m s q).0 in
      omega arith
  left_is (suc f) zero s p q =
      let e = walks-zero b m s q in
      let l = (walks_parts b f m s p).0 in
      omega arith
  left_is (suc f) (suc g) s p q =
      ap suc (left_is f g (next_at m s) (walks_parts b f m s p).1 (walks_parts b g m s q).1)

  -- so a number with more steps left than the walk has is not on the walk
  pub off-walk : (f g x s : ℕ) → walks b f m s ≡ true → walks b g m x ≡ true → f < g → Off x (chain f m s)
  unfolding chain
  off-walk zero g x s p q h = tt
  off-walk (suc f) g x s p q h = (
    (λ e. let u : suc f ≡ g = left_is (suc f) g x (rw e p) q in omega arith),
    off-walk f g x (next_at m s) (walks_parts b f m s p).1 q (omega arith),
  )

  pub distinct : (f s : ℕ) → walks b f m s ≡ true → Distinct (chain f m s)
  unfolding chain
  distinct zero s p = tt
  distinct (suc f) s p =
      let q = (walks_parts b f m s p).1 in
      (off-walk f (suc f) s (next_at m s) q p (omega arith), distinct f (next_at m s) q)

  -- a number that is not below the bound is not on the walk
  pub off-above : (f x s : ℕ) → walks b f m s ≡ true → b ≤ x → Off x (chain f m s)
  unfolding chain
  off-above zero x s p h = tt
  off-above (suc f) x s p h =
      let l = (walks_parts b f m s p).0 in
      ((λ (e : x ≡ s). omega arith), off-above f x (next_at m s) (walks_parts b f m s p).1 h)

  -- the number that a walk starts at is its first item's, or none
  pub head-is : (f s : ℕ) → walks b f m s ≡ true → head_or (chain f m s) ≡ s
  unfolding chain head_or
  head-is zero s p = sym (walks-zero b m s p)
  head-is (suc f) s p = refl

-- a step of the list, as a loop takes it
pub chain-step : (k : ℕ) (m : List ℕ) (s : ℕ) → 0 < k → chain k m s ≡ item_at m s ∷ chain (k - 1) m (next_at m s)
unfolding chain
chain-step zero m s h = absurd (omega arith)
chain-step (suc k) m s h =
    let e : suc k - 1 ≡ k = omega arith in
    rw e

-- as many items as steps
pub length-chain : (f : ℕ) (m : List ℕ) (s : ℕ) → length (chain f m s) ≡ f
unfolding chain
length-chain zero m s = refl
length-chain (suc f) m s = ap suc (length-chain f m (next_at m s))

-- How often a number occurs in a list: n different numbers below n are all of them, each once. Assumes nothing.
use Prim.Native.Nat.{ℕ, zero, suc, ◌+◌, ◌<◌, ◌≤◌}
use native.Mathlib.Omega.{arith}
use mathlib.Core.Path.{◌≡◌, refl, sym, ap, ◌∙◌}
use mathlib.Core.Bool.{Bool, true, false, cond}
use mathlib.Core.List.{List, [], ◌∷◌}
use lib.ListN.{length}
use lib.Dec.{eqb, ltb}
use borrow.Author.Tests.{eq-eqb, eqb-true, eqb-false, lt-ltb, le-ltb, ltb-true, ltb-false}
use Rattle.rules.specs.Sheet.{Item}
use Rattle.rules.specs.Sound.{occurs, below}
use Rattle.layout.specs.Chain.{chain, walks, head_or, END}
use Rattle.layout.proofs.Links.{walks_parts, Off, Distinct}

-- every number of the list is below b
abbrev pub AllBelow : ℕ → List Item → Type 0
AllBelow b [] = Unit
AllBelow b (i ∷ l) = (i.num < b) × AllBelow b l

-- each number below n occurs once, and no other
abbrev pub Once : List Item → ℕ → Type 0
Once l n = (j : ℕ) → occurs j l ≡ below j n

pub below_yes : (j n : ℕ) → j < n → below j n ≡ 1
below_yes j n h = rw (lt-ltb j n h)

pub below_no : (j n : ℕ) → n ≤ j → below j n ≡ 0
below_no j n h = rw (le-ltb j n h)

-- ---- not there
pub off-none : (x : ℕ) (l : List Item) → Off x l → occurs x l ≡ 0
off-none x [] o = refl
off-none x (i ∷ l) o = go (eqb x i.num) refl (off-none x l o.1)
  where
    go : (t : Bool) → eqb x i.num ≡ t → occurs x l ≡ 0 → cond t 1 0 + occurs x l ≡ 0
    go true e h = absurd (o.0 (eqb-true x i.num e))
    go false e h = omega arith

pub none_off : (x : ℕ) (l : List Item) → occurs x l ≡ 0 → Off x l
none_off x [] h = tt
none_off x (i ∷ l) h = ((λ (e : x ≡ i.num). omega (arith, ap (λ (t : Bool). cond t 1 0 + occurs x l) (eq-eqb x i.num e))), none_off x l (omega arith))

above-none : (n x : ℕ) (l : List Item) → AllBelow n l → n ≤ x → occurs x l ≡ 0
above-none n x l b h = off-none x l (go l b)
  where
    go : (l : List Item) → AllBelow n l → Off x l
    go [] b = tt
    go (i ∷ l) b = ((λ (e : x ≡ i.num). omega (arith, b.0)), go l b.1)

-- ---- at most once
pub distinct-once : (x : ℕ) (l : List Item) → Distinct l → occurs x l ≤ 1
distinct-once x [] d = omega arith
distinct-once x (i ∷ l) d = go (eqb x i.num) refl (distinct-once x l d.1)
  where
    go : (t : Bool) → eqb x i.num ≡ t → occurs x l ≤ 1 → cond t 1 0 + occurs x l ≤ 1
    go true e h = omega (arith, ap (λ (y : ℕ). occurs y l) (eqb-true x i.num e), off-none i.num l d.0)
    go false e h = omega arith

pub once-distinct : (l : List Item) → ((x : ℕ) → occurs x l ≤ 1) → Distinct l
once-distinct [] h = tt
once-distinct (i ∷ l) h = (
  none_off i.num l (omega (arith, h i.num, ap (λ (t : Bool). cond t 1 0 + occurs i.num l) (eq-eqb i.num i.num refl))),
  once-distinct l (λ x. omega (arith, h x)),
)

once-below : (n : ℕ) (l : List Item) → ((x : ℕ) → n ≤ x → occurs x l ≡ 0) → AllBelow n l
once-below n [] h = tt
once-below n (i ∷ l) h = (go (ltb i.num n) refl, once-below n l (λ x k. omega (arith, h x k)))
  where
    go : (t : Bool) → ltb i.num n ≡ t → i.num < n
    go true e = ltb-true i.num n e
    go false e = absurd (omega (arith, h i.num (ltb-false i.num n e), ap (λ (t : Bool). cond t 1 0 + occurs i.num l) (eq-eqb i.num i.num refl)))

-- what the rules' `once` says of a list
pub once-parts : (l : List Item) (n : ℕ) → Once l n → Distinct l × AllBelow n l
once-parts l n h = (once-distinct l (λ x. at_most x (ltb x n) refl), once-below n l (λ x k. h x ∙ below_no x n k))
  where
    at_most : (x : ℕ) (t : Bool) → ltb x n ≡ t → occurs x l ≤ 1
    at_most x true e = omega (arith, h x, below_yes x n (ltb-true x n e))
    at_most x false e = omega (arith, h x, below_no x n (ltb-false x n e))

-- ---- all of them
-- how many items have a number below n, counted by number
abbrev counted : ℕ → List Item → ℕ
counted zero l = 0
counted (suc n) l = occurs n l + counted n l

one_more : (n x : ℕ) → cond (eqb n x) 1 0 + below x n ≡ below x (suc n)
one_more n x = go (eqb n x) refl (ltb x n) refl (ltb x (suc n)) refl
  where
    go : (a : Bool) → eqb n x ≡ a → (b : Bool) → ltb x n ≡ b → (c : Bool) → ltb x (suc n) ≡ c → cond a 1 0 + cond b 1 0 ≡ cond c 1 0
    go true e true f c g = absurd (omega (arith, eqb-true n x e, ltb-true x n f))
    go true e false f true g = refl
    go true e false f false g = absurd (omega (arith, eqb-true n x e, ltb-false x (suc n) g))
    go false e true f true g = refl
    go false e true f false g = absurd (omega (arith, ltb-true x n f, ltb-false x (suc n) g))
    go false e false f true g = absurd (eqb-false n x e (omega (arith, ltb-false x n f, ltb-true x (suc n) g)))
    go false e false f false g = refl

counted-nil : (n : ℕ) → counted n [] ≡ 0
counted-nil zero = refl
counted-nil (suc n) = omega (arith, counted-nil n)

counted-cons : (n : ℕ) (i : Item) (l : List Item) → counted n (i ∷ l) ≡ below i.num n + counted n l
counted-cons zero i l = omega (arith, below_no i.num 0 (omega arith))
counted-cons (suc n) i l = omega (arith, counted-cons n i l, one_more n i.num)

counted_all : (n : ℕ) (l : List Item) → AllBelow n l → counted n l ≡ length l
counted_all n [] b = counted-nil n
counted_all n (i ∷ l) b = omega (arith, counted-cons n i l, counted_all n l b.1, below_yes i.num n b.0)

module _ (l : List Item) (most : (x : ℕ) → occurs x l ≤ 1) where
  counted-le : (n : ℕ) → counted n l ≤ n
  counted-le zero = omega arith
  counted-le (suc n) = omega (arith, counted-le n, most n)

  counted-full : (n j : ℕ) → counted n l ≡ n → j < n → occurs j l ≡ 1
  counted-full zero j e h = absurd (omega arith)
  counted-full (suc n) j e h = go (eqb j n) refl (λ h'. counted-full n j (omega (arith, counted-le n, most n)) h')
    where
      go : (t : Bool) → eqb j n ≡ t → (j < n → occurs j l ≡ 1) → occurs j l ≡ 1
      go true q ih = ap (λ (x : ℕ). occurs x l) (eqb-true j n q) ∙ omega (arith, counted-le n, most n)
      go false q ih =
          let d : j ≡ n → ⊥ = eqb-false j n q in
          ih (omega (arith, d))

pub once : (n : ℕ) (l : List Item) → Distinct l → AllBelow n l → length l ≡ n → Once l n
once n l d b e j = go (ltb j n) refl
  where
    go : (t : Bool) → ltb j n ≡ t → occurs j l ≡ below j n
    go true q = counted-full l (λ x. distinct-once x l d) n j (counted_all n l b ∙ e) (ltb-true j n q) ∙ sym (below_yes j n (ltb-true j n q))
    go false q = above-none n j l b (ltb-false j n q) ∙ sym (below_no j n (ltb-false j n q))

-- ---- of a walk
pub walk-below : (b f : ℕ) (m : List ℕ) (s : ℕ) → walks b f m s ≡ true → AllBelow b (chain f m s)
unfolding chain
walk-below b zero m s p = tt
walk-below b (suc f) m s p =
    let q = walks_parts b f m s p in
    (q.0, walk-below b f m _ q.1)

-- the first number of a list is a link
pub head-le : (b : ℕ) (l : List Item) → b ≤ END → AllBelow b l → head_or l ≤ END
unfolding head_or
head-le b [] h a = omega arith
head-le b (i ∷ l) h a = omega (arith, a.0)

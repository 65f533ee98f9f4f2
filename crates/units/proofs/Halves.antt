-- One unit: its range, its kind, and that no unit is both halves.
use Prim.Native.Nat.{ℕ, ◌≤◌, ◌<◌}
use mathlib.Core.Path.{◌≡◌, refl, sym, ap, ◌∙◌}
use mathlib.Core.Bool.{Bool, true, false, cond, ◌&&◌, ◌||◌, false≢true}
use lib.Dec.{leb}
use native.Mathlib.Omega.{arith}
use borrow.Author.Tests.{leb-true, ltb-true, le-leb, lt-leb, lt-ltb, le-ltb}
use Rattle.units.specs.declared.Kind.{Kind}
use Rattle.units.specs.declared.Kind.TheVariants.{Plain, High, Low}
use Rattle.units.specs.Surrogates.{is_high, is_low, half_of}
use Rattle.units.specs.Kinds.{kind_of}

-- ---- two tests at once
pub both : (a b : Bool) → a ≡ true → b ≡ true → (a && b) ≡ true
both true b e f = f
both false b e f = e

pub and_left : (a b : Bool) → (a && b) ≡ true → a ≡ true
and_left true b e = refl
and_left false b e = e

pub and_right : (a b : Bool) → (a && b) ≡ true → b ≡ true
and_right true b e = e
and_right false b e = absurd (false≢true e)

pub and_no-left : (a b : Bool) → a ≡ false → (a && b) ≡ false
and_no-left true b e = absurd (false≢true (sym e))
and_no-left false b e = refl

pub and_no-right : (a b : Bool) → b ≡ false → (a && b) ≡ false
and_no-right true b e = e
and_no-right false b e = refl

pub or-first : (a b r : Bool) → r ≡ a → r ≡ true → r ≡ (a || b)
or-first true b r e f = f
or-first false b r e f = absurd (false≢true (sym e ∙ f))

pub or-second : (a b r s : Bool) → r ≡ a → r ≡ false → s ≡ b → s ≡ (a || b)
or-second true b r s e f g = absurd (false≢true (sym f ∙ e))
or-second false b r s e f g = g

-- ---- ranges
pub high_in : (u : ℕ) → 0xD800 ≤ u → u < 0xDC00 → is_high u ≡ true
high_in u h k = both _ _ (le-leb 0xD800 u h) (lt-ltb u 0xDC00 k)

pub low_in : (u : ℕ) → 0xDC00 ≤ u → u < 0xE000 → is_low u ≡ true
low_in u h k = both _ _ (le-leb 0xDC00 u h) (lt-ltb u 0xE000 k)

pub high-range : (u : ℕ) → is_high u ≡ true → (0xD800 ≤ u) × (u < 0xDC00)
high-range u e = (leb-true 0xD800 u (and_left _ _ e), ltb-true u 0xDC00 (and_right (leb 0xD800 u) _ e))

pub low-range : (u : ℕ) → is_low u ≡ true → (0xDC00 ≤ u) × (u < 0xE000)
low-range u e = (leb-true 0xDC00 u (and_left _ _ e), ltb-true u 0xE000 (and_right (leb 0xDC00 u) _ e))

pub not-high_from : (u : ℕ) → 0xDC00 ≤ u → is_high u ≡ false
not-high_from u h = and_no-right (leb 0xD800 u) _ (le-ltb u 0xDC00 h)

pub not-low-below : (u : ℕ) → u < 0xDC00 → is_low u ≡ false
not-low-below u h = and_no-left (leb 0xDC00 u) _ (lt-leb 0xDC00 u h)

-- neither half: below D800, and from E000 on
pub plain-below : (u : ℕ) → u < 0xD800 → (is_high u ≡ false) × (is_low u ≡ false)
plain-below u h = (and_no-left (leb 0xD800 u) _ (lt-leb 0xD800 u h), not-low-below u (omega arith))

pub plain_from : (u : ℕ) → 0xE000 ≤ u → (is_high u ≡ false) × (is_low u ≡ false)
plain_from u h = (not-high_from u (omega arith), and_no-right (leb 0xDC00 u) _ (le-ltb u 0xE000 h))

-- never both
pub low_not-high : (u : ℕ) → is_low u ≡ true → is_high u ≡ false
low_not-high u e = not-high_from u (low-range u e).0

pub high_not-low : (u : ℕ) → is_high u ≡ true → is_low u ≡ false
high_not-low u e = not-low-below u (high-range u e).1

-- ---- kinds
pub kind-high : (u : ℕ) → is_high u ≡ true → kind_of u ≡ High
unfolding kind_of
kind-high u e = ap (λ (b : Bool). cond b High (cond (is_low u) Low Plain)) e

pub kind-low : (u : ℕ) → is_low u ≡ true → kind_of u ≡ Low
unfolding kind_of
kind-low u e = ap (λ (b : Bool). cond b High (cond (is_low u) Low Plain)) (low_not-high u e) ∙ ap (λ (b : Bool). cond b Low Plain) e

pub kind-plain : (u : ℕ) → (is_high u ≡ false) × (is_low u ≡ false) → kind_of u ≡ Plain
unfolding kind_of
kind-plain u e = ap (λ (b : Bool). cond b High (cond (is_low u) Low Plain)) e.0 ∙ ap (λ (b : Bool). cond b Low Plain) e.1

abbrev pub high_kind : Kind → Bool
high_kind Plain = false
high_kind High = true
high_kind Low = false

abbrev pub low_kind : Kind → Bool
low_kind Plain = false
low_kind High = false
low_kind Low = true

-- a unit's kind settles both tests
pub high_by-kind : (u : ℕ) → is_high u ≡ high_kind (kind_of u)
unfolding kind_of
high_by-kind u = go (is_high u) (is_low u)
  where
    go : (h l : Bool) → h ≡ high_kind (cond h High (cond l Low Plain))
    go true l = refl
    go false true = refl
    go false false = refl

pub low_by-kind : (u : ℕ) → is_low u ≡ low_kind (kind_of u)
unfolding kind_of
low_by-kind u = go (is_high u) (is_low u) (high_not-low u)
  where
    go : (h l : Bool) → (h ≡ true → l ≡ false) → l ≡ low_kind (cond h High (cond l Low Plain))
    go true l f = f refl
    go false true f = refl
    go false false f = refl

-- no half at all
pub half-none : (u : ℕ) → half_of u ≡ 0 → (is_high u ≡ false) × (is_low u ≡ false)
half-none u e = go (is_high u) (is_low u) e
  where
    go : (h l : Bool) → ◌≡◌ {A = ℕ} (cond (h || l) 1 0) 0 → (h ≡ false) × (l ≡ false)
    go true l e = absurd (omega (arith, e))
    go false true e = absurd (omega (arith, e))
    go false false e = (refl, refl)

-- Tests of all keys, by the code's tests of masks.
use mathlib.Core.Path.{◌≡◌, refl, sym, ap, ap₂, ◌∙◌}
use mathlib.Core.Bool.{Bool, true, false, cond, not, true≢false}
use Prim.Native.Nat.{ℕ, zero, suc, ◌<◌}
use native.Mathlib.Omega.{arith}
use lib.Dec.{eqb}
use borrow.Author.Tests.{eqb-true, eqb-false, eq-eqb, ne_eqb}
use Rattle.attrs.specs.declared.Attrs.{Attrs}
use Rattle.sets.specs.Sets.{Slot, absent, is, Set, Env, keys, is_absent, bare, is_none, same_force, lay, non_null, as_set, differs, opened, same_slot, same_sets}
use Rattle.sets.specs.Bits.{bit}
use Rattle.attrs.specs.Packed.{says, env_of, packed, Whole}
use Rattle.sets.proofs.Bits.{bit-lt, bit-zero, bits-settle}
use Rattle.sets.proofs.Keys.{every, every-at, at_every, every_ext, both_ways}
use Rattle.attrs.proofs.Says.{says-packed}
use Rattle.attrs.proofs.Slots.{says-clear, has-bit}

-- ---- no key

pub bare_mask : (a : Attrs) → Whole a → eqb a.mask 0 ≡ bare keys (says a)
unfolding keys every
bare_mask a w = both_ways (eqb a.mask 0) (every 16 (λ k. is_absent (says a k))) to from
  where
    to : eqb a.mask 0 ≡ true → every 16 (λ k. is_absent (says a k)) ≡ true
    to e =
        at_every 16 (λ k. is_absent (says a k))
        (λ k l. ap is_absent (says-clear a k (ap (λ (m : ℕ). bit m k) (eqb-true a.mask 0 e) ∙ bit-zero k)))

    clear : (k : ℕ) → k < 16 → is_absent (says a k) ≡ true → bit a.mask k ≡ bit 0 k
    clear k l e = omega (arith, bit-lt a.mask k, bit-zero k, eqb-false (bit a.mask k) 1 (sym (has-bit a k l) ∙ ap not e))

    from : every 16 (λ k. is_absent (says a k)) ≡ true → eqb a.mask 0 ≡ true
    from e =
        eq-eqb a.mask 0
        (bits-settle 16 a.mask 0 w.fits (omega arith) (λ k l. clear k l (every-at 16 (λ k. is_absent (says a k)) e k l)))

-- ---- the same slots

-- two sets with the same keys are the same where none differs
same-slot : (s t : Slot) → is_absent s ≡ is_absent t → is_absent (cond (differs s (lay t 0)) s absent) ≡ same_slot s t
same-slot absent absent e = refl
same-slot absent (is w) e = absurd (true≢false e)
same-slot (is v) absent e = absurd (true≢false (sym e))
same-slot (is v) (is w) e = go (eqb v w)
  where
    go : (b : Bool) → is_absent (cond (not b) (is v) absent) ≡ b
    go true = refl
    go false = refl

absent-bit : (a b : Attrs) (k : ℕ) → k < 16 → bit a.mask k ≡ bit b.mask k → is_absent (says a k) ≡ is_absent (says b k)
absent-bit a b k l e =
    same_not (is_absent (says a k)) (is_absent (says b k)) (has-bit a k l ∙ ap (λ (x : ℕ). eqb x 1) e ∙ sym (has-bit b k l))
  where
    same_not : (x y : Bool) → not x ≡ not y → x ≡ y
    same_not true true q = refl
    same_not true false q = absurd (true≢false (sym q))
    same_not false true q = absurd (true≢false q)
    same_not false false q = refl

pub same-none-differs : (a b : Attrs) → a.mask ≡ b.mask → bare keys (opened (says a) (env_of b)) ≡ same_sets keys (says a) (says b)
unfolding keys every env_of
same-none-differs a b e =
    every_ext 16 (λ k. is_absent (opened (says a) (env_of b) k)) (λ k. same_slot (says a k) (says b k))
    (λ k l. same-slot (says a k) (says b k) (absent-bit a b k l (ap (λ (m : ℕ). bit m k) e)))

-- other keys, other sets
pub other_keys : (a b : Attrs) → Whole a → Whole b → (a.mask ≡ b.mask → ⊥) → false ≡ same_sets keys (says a) (says b)
unfolding keys every
other_keys a b w x n = both_ways false (every 16 (λ k. same_slot (says a k) (says b k))) (λ e. absurd (true≢false (sym e))) from
  where
    alike : (s t : Slot) → same_slot s t ≡ true → is_absent s ≡ is_absent t
    alike absent absent e = refl
    alike absent (is w) e = absurd (true≢false (sym e))
    alike (is v) absent e = absurd (true≢false (sym e))
    alike (is v) (is w) e = refl

    bit-of-eqb : (b c : ℕ) → b < 2 → c < 2 → eqb b 1 ≡ eqb c 1 → b ≡ c
    bit-of-eqb zero zero l m e = refl
    bit-of-eqb zero (suc c) l m e = let z : suc c ≡ 1 = omega arith in absurd (true≢false (sym (e ∙ eq-eqb (suc c) 1 z)))
    bit-of-eqb (suc b) zero l m e = let z : suc b ≡ 1 = omega arith in absurd (true≢false (sym (eq-eqb (suc b) 1 z) ∙ e))
    bit-of-eqb (suc b) (suc c) l m e = omega arith

    from : every 16 (λ k. same_slot (says a k) (says b k)) ≡ true → false ≡ true
    from e =
        absurd (n (bits-settle 16 a.mask b.mask w.fits x.fits (λ k l.
        bit-of-eqb (bit a.mask k) (bit b.mask k) (bit-lt a.mask k) (bit-lt b.mask k)
        (sym (has-bit a k l) ∙ ap not (alike (says a k) (says b k) (every-at 16 (λ k. same_slot (says a k) (says b k)) e k l)) ∙ has-bit b k l))))

-- ---- of packed sets, and of what is in force

pub bare-packed : (s : Set) → bare keys (says (packed s)) ≡ bare keys s
unfolding keys
bare-packed s = ap (bare keys) (says-packed s)

pub same-packed : (s t : Set) → same_sets keys (says (packed s)) (says (packed t)) ≡ same_sets keys s t
unfolding keys
same-packed s t = ap₂ (same_sets keys) (says-packed s) (says-packed t)

null-absent : (v : ℕ) → is_absent (non_null v) ≡ eqb v 0
null-absent v = go (eqb v 0)
  where
    go : (b : Bool) → is_absent (cond b absent (is v)) ≡ b
    go true = refl
    go false = refl

same-value : (v w : ℕ) → same_slot (non_null v) (non_null w) ≡ eqb v w
same-value v w = go (eqb v 0) (eqb w 0) refl refl
  where
    go : (b c : Bool) → eqb v 0 ≡ b → eqb w 0 ≡ c → same_slot (cond b absent (is v)) (cond c absent (is w)) ≡ eqb v w
    go true true e f = sym (eq-eqb v w (eqb-true v 0 e ∙ sym (eqb-true w 0 f)))
    go true false e f = sym (ne_eqb v w (λ q. eqb-false w 0 f (sym q ∙ eqb-true v 0 e)))
    go false true e f = sym (ne_eqb v w (λ q. eqb-false v 0 e (q ∙ eqb-true w 0 f)))
    go false false e f = refl

pub bare-force : (e : Env) → bare keys (as_set e) ≡ is_none keys e
unfolding keys every
bare-force e = every_ext 16 (λ k. is_absent (as_set e k)) (λ k. eqb (e k) 0) (λ k l. null-absent (e k))

pub same-force : (e f : Env) → same_sets keys (as_set e) (as_set f) ≡ same_force keys e f
unfolding keys every
same-force e f = every_ext 16 (λ k. same_slot (as_set e k) (as_set f k)) (λ k. eqb (e k) (f k)) (λ k l. same-value (e k) (f k))

-- What Open and "text with attributes" make of a set, at a key that a walk leaves alone and at one that it puts.
use mathlib.Core.Path.{◌≡◌, refl, sym, ap, fun_ext, ◌∙◌}
use mathlib.Core.Bool.{Bool, true, false, cond}
use Prim.Native.Nat.{ℕ, ◌<◌}
use lib.Dec.{ltb}
use borrow.Author.Tests.{eq-eqb, ne_eqb}
use Rattle.attrs.specs.declared.Attrs.{Attrs}
use Rattle.sets.specs.Sets.{Slot, absent, is, Set, Env, empty, lay, differs, opened, null_for, completed}
use Rattle.sets.specs.Bits.{bit}
use Rattle.attrs.specs.Packed.{says, env_of, packed, changed}
use Rattle.attrs.proofs.Says.{says-packed, env_of-says}
use Rattle.attrs.proofs.Slots.{says-clear, key-says}

pub says-empty : (k : ℕ) → says (packed empty) k ≡ absent
says-empty k = ap (λ (s : Set). s k) (says-packed empty) ∙ go (ltb k 16)
  where
    go : (b : Bool) → cond b absent absent ≡ absent
    go true = refl
    go false = refl

module _ (a : Attrs) (e f : Env) (k : ℕ) where
  changed-not : (s : Slot) → lay s 0 ≡ e k → cond (differs s (e k)) (is (f k)) absent ≡ absent
  changed-not absent q = refl
  changed-not (is w) q = rw (eq-eqb w (e k) q)

  pub changed-lacks : bit a.mask k ≡ 0 → changed (says a) e f k ≡ says (packed empty) k
  changed-lacks q = rw (says-clear a k q) (sym (says-empty k))

  pub changed-keeps : env_of a k ≡ e k → changed (says a) e f k ≡ says (packed empty) k
  changed-keeps q = changed-not (says a k) (sym (env_of-says a k) ∙ q) ∙ sym (says-empty k)

  pub changed-puts : k < 16 → bit a.mask k ≡ 1 → (env_of a k ≡ e k → ⊥) → changed (says a) e f k ≡ is (f k)
  changed-puts l b n = rw (key-says a k l b, ne_eqb (env_of a k) (e k) n)

-- with the set's own values, it is what Open puts
pub changed-opened : (a : Attrs) (e : Env) → changed (says a) e (env_of a) ≡ opened (says a) e
unfolding env_of
changed-opened a e = fun_ext (λ k. go (says a k) (e k))
  where
    go : (s : Slot) (v : ℕ) → cond (differs s v) (is (lay s 0)) absent ≡ cond (differs s v) s absent
    go absent v = refl
    go (is w) v = refl

module _ (a : Attrs) (e : Env) (k : ℕ) where
  pub completed-none : e k ≡ 0 → completed (says a) e k ≡ says a k
  completed-none q = rw q (go (says a k))
    where
      go : (s : Slot) → null_for s 0 ≡ s
      go absent = refl
      go (is w) = refl

  pub completed-keeps : k < 16 → bit a.mask k ≡ 1 → completed (says a) e k ≡ says a k
  completed-keeps l b = rw (key-says a k l b)

  pub completed-puts : bit a.mask k ≡ 0 → (e k ≡ 0 → ⊥) → completed (says a) e k ≡ is 0
  completed-puts b n = rw (says-clear a k b, ne_eqb (e k) 0 n)

-- A walk over the keys of a mask that stores slots, lowest key first, and what it leaves in the set.
use mathlib.Core.Path.{◌≡◌, refl, sym, ap, ◌∙◌}
use mathlib.Core.Bool.{Bool, true, false, cond}
use Prim.Native.Nat.{ℕ, ◌-◌, ◌^◌, ◌<◌}
use native.Mathlib.Omega.{arith}
use lib.Dec.{eqb}
use borrow.Author.Tests.{eqb-true, eqb-false}
use Rattle.attrs.specs.declared.Attrs.{Attrs}
use Rattle.sets.specs.Sets.{Slot, is, Set, at}
use Rattle.sets.specs.Bits.{bit}
use Rattle.attrs.specs.Packed.{look, says, store, onto, Whole}
use Rattle.sets.proofs.Bits.{bit-lt, bit-zero, bit_clear-same, bit_clear-other, at_same, at_other}
use Rattle.attrs.proofs.Says.{says_at, store-seen, look-onto, whole-onto, is-onto}
use Rattle.attrs.proofs.Slots.{Part, part_all, Turn}

-- The slots of s are stored over a. A key that is left has what it had, any other what it is to have.
pub record Walk (m left : ℕ) (a : Attrs) (s : Set) (now : Attrs) : Type 0 where
  pub part : Part m left
  pub whole : Whole now
  pub lies : (j : ℕ) → j < 16 → look now j ≡ cond (eqb (bit left j) 1) (look a j) (store (s j) (look a j))

store_same : (a : Attrs) (x : Slot) (k : ℕ) → k < 16 → x ≡ says a k → look a k ≡ store x (look a k)
store_same a x k l e = sym (ap (λ (y : Slot). store y (look a k)) (e ∙ says_at a k l) ∙ store-seen (look a k))

pub begins : (m : ℕ) (a : Attrs) (s : Set) → Whole a → m < 2 ^ 16 → ((j : ℕ) → bit m j ≡ 0 → s j ≡ says a j) → Walk m m a s a
begins m a s w l h = record { part = part_all m l; whole = w; lies = λ j g. go j g (eqb (bit m j) 1) refl }
  where
    go : (j : ℕ) → j < 16 → (t : Bool) → eqb (bit m j) 1 ≡ t → look a j ≡ cond t (look a j) (store (s j) (look a j))
    go j g true q = refl
    go j g false q = store_same a (s j) j g (h j (omega (arith, bit-lt m j, eqb-false (bit m j) 1 q)))

pub ends : {m left : ℕ} {a : Attrs} {s : Set} {now : Attrs} → Walk m left a s now → left ≡ 0 → now ≡ onto a s
ends {a = a} {s} {now} w e = is-onto now a s w.whole (λ j g. w.lies j g ∙ rw (e, bit-zero j))

module _ {m left k r : ℕ} {a : Attrs} {s : Set} {now : Attrs} (w : Walk m left a s now) (x : Turn m left k r) where
  -- a key that is met for the first time has what it had
  pub still : look now k ≡ look a k
  still = w.lies k x.lt ∙ rw x.here

  visit : (now' : Attrs) → Whole now' → look now' k ≡ store (s k) (look a k) → ((j : ℕ) → j < 16 → (j ≡ k → ⊥) → look now' j ≡ look now j)
      → Walk m r a s now'
  visit now' h e o = record { part = x.rest; whole = h; lies = λ j g. rw x.is (go j g (eqb j k) refl) }
    where
      go : (j : ℕ) → j < 16 → (t : Bool) → eqb j k ≡ t
          → look now' j ≡ cond (eqb (bit (left - 2 ^ k) j) 1) (look a j) (store (s j) (look a j))
      go j g true q = rw (eqb-true j k q, bit_clear-same left k x.here) e
      go j g false q = rw (bit_clear-other left k j x.here (eqb-false j k q)) (o j g (eqb-false j k q) ∙ w.lies j g)

  pub visit-put : {now' : Attrs} {v : ℕ} → now' ≡ onto now (at k (is v) (says now)) → s k ≡ is v → Walk m r a s now'
  visit-put {v = v} e q =
      let t = at k (is v) (says now) in
      rw e (visit (onto now t) (whole-onto now t)
      (look-onto now t k x.lt ∙ ap (λ (y : Slot). store y (look now k)) (at_same k (is v) (says now)) ∙ ap (λ (y : Slot). store y (look a k)) (sym q))
      (λ j g n. look-onto now t j g ∙ sym (store_same now (t j) j g (at_other k j (is v) (says now) n))))

  pub visit-keep : s k ≡ says a k → Walk m r a s now
  visit-keep q = visit now w.whole (still ∙ store_same a (s k) k x.lt q) (λ j g n. refl)

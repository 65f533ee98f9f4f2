-- What packed and changed sets say, and what is in force by them: the laws that the layers above cite.
use mathlib.Core.Path.{◌≡◌, refl, sym, ap, fun_ext, ◌∙◌}
use mathlib.Core.Bool.{Bool, true, false, cond}
use Prim.Native.Nat.{ℕ, ◌≤◌, ◌<◌}
use lib.Dec.{ltb}
use borrow.Author.Tests.{lt-ltb, le-ltb, ltb-true}
use Rattle.attrs.specs.declared.Attrs.{Attrs}
use Rattle.sets.specs.Sets.{Slot, absent, is, Set, lay, within}
use Rattle.attrs.specs.Packed.{Held, hidden, holds, look, seen, says, env_of, store, packed, onto, Whole}
use Rattle.attrs.proofs.Looks.{made, look-make, whole-make, make_ext}

-- ---- at one key

pub within-at : (s : Set) (k : ℕ) → k < 16 → within s k ≡ s k
within-at s k l = rw (lt-ltb k 16 l)

pub within-past : (s : Set) (k : ℕ) → 16 ≤ k → within s k ≡ absent
within-past s k l = rw (le-ltb k 16 l)

-- two sets that agree at each key agree
pub within_ext : (s t : Set) → ((k : ℕ) → k < 16 → s k ≡ t k) → within s ≡ within t
within_ext s t h = fun_ext (λ k. go k (ltb k 16) refl)
  where
    go : (k : ℕ) (b : Bool) → ltb k 16 ≡ b → cond b (s k) absent ≡ cond b (t k) absent
    go k true e = h k (ltb-true k 16 e)
    go k false e = refl

pub says_at : (a : Attrs) (k : ℕ) → k < 16 → says a k ≡ seen (look a k)
unfolding says
says_at a k l = within-at (λ k. seen (look a k)) k l

pub says_past : (a : Attrs) (k : ℕ) → 16 ≤ k → says a k ≡ absent
unfolding says
says_past a k l = within-past (λ k. seen (look a k)) k l

pub says-within : (a : Attrs) → within (says a) ≡ says a
unfolding says
says-within a = fun_ext (λ k. go (ltb k 16) (seen (look a k)))
  where
    go : (b : Bool) (s : Slot) → cond b (cond b s absent) absent ≡ cond b s absent
    go true s = refl
    go false s = refl

pub env_of-says : (a : Attrs) (k : ℕ) → env_of a k ≡ lay (says a k) 0
unfolding env_of
env_of-says a k = refl

-- ---- what is stored is said

seen-store : (s : Slot) (h : Held) → seen (store s h) ≡ s
seen-store absent (hidden v) = refl
seen-store absent (holds v) = refl
seen-store (is w) h = refl

pub store-seen : (h : Held) → store (seen h) h ≡ h
store-seen (hidden v) = refl
store-seen (holds v) = refl

store-over : (s t : Slot) → store s (store t (hidden 0)) ≡ store s (hidden 0)
store-over absent absent = refl
store-over absent (is w) = refl
store-over (is v) t = refl

pub look-packed : (s : Set) (k : ℕ) → k < 16 → look (packed s) k ≡ store (s k) (hidden 0)
unfolding packed
look-packed s k l = look-make (λ k. store (s k) (hidden 0)) k l

pub look-onto : (a : Attrs) (s : Set) (k : ℕ) → k < 16 → look (onto a s) k ≡ store (s k) (look a k)
unfolding onto
look-onto a s k l = look-make (λ k. store (s k) (look a k)) k l

says_if : (a : Attrs) (s : Set) → ((k : ℕ) → k < 16 → seen (look a k) ≡ s k) → says a ≡ within s
unfolding says
says_if a s h = within_ext (λ k. seen (look a k)) s h

pub says-packed : (s : Set) → says (packed s) ≡ within s
says-packed s = says_if (packed s) s (λ k l. ap seen (look-packed s k l) ∙ seen-store (s k) (hidden 0))

pub says-onto : (a : Attrs) (s : Set) → says (onto a s) ≡ within s
says-onto a s = says_if (onto a s) s (λ k l. ap seen (look-onto a s k l) ∙ seen-store (s k) (look a k))

-- ---- packed sets: the ones without hidden bytes

pub packed_ext : (s t : Set) → ((k : ℕ) → k < 16 → s k ≡ t k) → packed s ≡ packed t
unfolding packed
packed_ext s t h =
    make_ext (λ k. store (s k) (hidden 0)) (λ k. store (t k) (hidden 0)) (λ k l. ap (λ (x : Slot). store x (hidden 0)) (h k l))

pub packed-within : (s : Set) → packed (within s) ≡ packed s
packed-within s = packed_ext (within s) s (within-at s)

pub onto-packed : (s t : Set) → onto (packed t) s ≡ packed s
unfolding onto packed
onto-packed s t =
    make_ext (λ k. store (s k) (look (packed t) k)) (λ k. store (s k) (hidden 0))
    (λ k l. ap (store (s k)) (look-packed t k l) ∙ store-over (s k) (t k))

pub whole-packed : (s : Set) → Whole (packed s)
unfolding packed
whole-packed s = whole-make (λ k. store (s k) (hidden 0))

pub whole-onto : (a : Attrs) (s : Set) → Whole (onto a s)
unfolding onto
whole-onto a s = whole-make (λ k. store (s k) (look a k))

-- a set with what lies at each key stored over a
pub is-onto : (r a : Attrs) (s : Set) → Whole r → ((k : ℕ) → k < 16 → look r k ≡ store (s k) (look a k)) → r ≡ onto a s
unfolding onto
is-onto r a s w h = made r (λ k. store (s k) (look a k)) w h

-- nothing stored anew, nothing changed
pub onto_same : (a : Attrs) (s : Set) → Whole a → ((k : ℕ) → k < 16 → s k ≡ says a k) → a ≡ onto a s
onto_same a s w h =
    is-onto a a s w (λ k l. sym (ap (λ (x : Slot). store x (look a k)) (h k l ∙ says_at a k l) ∙ store-seen (look a k)))

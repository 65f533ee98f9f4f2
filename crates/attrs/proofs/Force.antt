-- What the layers above cite of the functions: what the new set says, what is then in force, and that packed sets stay packed.
use mathlib.Core.Path.{◌≡◌, refl, sym, ap, ap₂, fun_ext, ◌∙◌}
use mathlib.Core.Bool.{Bool, true, false, cond}
use Prim.Native.Nat.{ℕ, ◌≤◌, ◌<◌}
use native.Mathlib.Omega.{arith}
use lib.Dec.{eqb, ltb}
use borrow.Author.Tests.{lt-ltb, ltb-true, ltb-false, eqb-true}
use Rattle.attrs.specs.declared.Attrs.{Attrs}
use Rattle.attrs.specs.Packed.{Took}
use Rattle.sets.specs.Sets.{Slot, absent, is, Set, Env, empty, none, at, lay, non_null, as_set, differs, opened, former, completed, null_for, within}
use Rattle.attrs.specs.Packed.{says, env_of, packed, onto, taken, with_at, update_at}
use Rattle.sets.proofs.Bits.{at_other}
use Rattle.attrs.proofs.Says.{within-at, says_past, says-packed, says-onto, packed_ext, packed-within, onto-packed, env_of-says}
use Rattle.attrs.proofs.Slots.{env-past}

-- A set that has no hidden bytes: the one that says what it says.
abbrev pub Canonical : Attrs → Type 0
Canonical a = packed (says a) ≡ a

-- All that is packed is so, and what the functions make of such a set is packed.
pub packed_canonical : (s : Set) → Canonical (packed s)
packed_canonical s = ap packed (says-packed s) ∙ packed-within s

pub onto_canonical : (a : Attrs) → Canonical a → (s : Set) → onto a s ≡ packed s
onto_canonical a c s = ap (λ (x : Attrs). onto x s) (sym c) ∙ onto-packed s (says a)

-- two of them that say the same are one
pub canonical_ext : (a b : Attrs) → Canonical a → Canonical b → says a ≡ says b → a ≡ b
canonical_ext a b c d e = sym c ∙ ap packed e ∙ d

-- ---- what a changed set says, at every key

-- nothing over 15
abbrev pub Keyed : Set → Type 0
Keyed s = (k : ℕ) → 16 ≤ k → s k ≡ absent

pub within_keyed : (s : Set) → Keyed s → within s ≡ s
within_keyed s h = fun_ext (λ k. go k (ltb k 16) refl)
  where
    go : (k : ℕ) (b : Bool) → ltb k 16 ≡ b → cond b (s k) absent ≡ s k
    go k true e = refl
    go k false e = sym (h k (ltb-false k 16 e))

module _ (a : Attrs) where
  pub says-put : (k : ℕ) (x : Slot) → k < 16 → says (onto a (at k x (says a))) ≡ at k x (says a)
  says-put k x l =
      says-onto a (at k x (says a)) ∙ within_keyed (at k x (says a)) (λ j g. at_other k j x (says a) (omega arith) ∙ says_past a j g)

  pub says-without : (k : ℕ) → says (onto a (at k absent (says a))) ≡ at k absent (says a)
  says-without k = says-onto a (at k absent (says a)) ∙ within_keyed (at k absent (says a)) past
    where
      past : Keyed (at k absent (says a))
      past j g = rw (says_past a j g) (go (eqb j k))
        where
          go : (b : Bool) → cond b absent absent ≡ absent
          go true = refl
          go false = refl

  pub says-unset : (f : Attrs) → says (onto a (completed (says a) (env_of f))) ≡ completed (says a) (env_of f)
  says-unset f =
      says-onto a (completed (says a) (env_of f))
      ∙ within_keyed (completed (says a) (env_of f)) (λ k g. rw (says_past a k g, env-past f k g))

  pub says-opened : (e : Env) → says (packed (opened (says a) e)) ≡ opened (says a) e
  says-opened e = says-packed (opened (says a) e) ∙ within_keyed (opened (says a) e) (λ k g. rw (says_past a k g))

  pub says-former : (e : Env) → says (packed (former (says a) e)) ≡ former (says a) e
  says-former e = says-packed (former (says a) e) ∙ within_keyed (former (says a) e) (λ k g. rw (says_past a k g))

-- ---- with, and a mark passed, where they are not refused

module _ (a : Attrs) (k v : ℕ) (l : k < 16) (h : v < 256) where
  pub with-takes : with_at a k v ≡ taken (onto a (at k (is v) (says a)))
  with-takes = rw (lt-ltb k 16 l, lt-ltb v 256 h)

  pub says-with : says (with_at a k v).attrs ≡ at k (is v) (says a)
  says-with = ap (λ (t : Took). says t.attrs) with-takes ∙ says-put a k (is v) l

  pub update-takes : update_at a k v ≡ taken (onto a (at k (non_null v) (says a)))
  update-takes = rw (lt-ltb k 16 l, lt-ltb v 256 h)

  pub says-update : says (update_at a k v).attrs ≡ at k (non_null v) (says a)
  says-update = ap (λ (t : Took). says t.attrs) update-takes ∙ says-put a k (non_null v) l

-- ---- what is in force

lay-value : (v : ℕ) → lay (non_null v) 0 ≡ v
lay-value v = go (eqb v 0) refl
  where
    go : (b : Bool) → eqb v 0 ≡ b → lay (cond b absent (is v)) 0 ≡ v
    go true e = sym (eqb-true v 0 e)
    go false e = refl

pub env_update : (a : Attrs) (k v : ℕ) → k < 16 → v < 256 → env_of (update_at a k v).attrs ≡ at k v (env_of a)
unfolding env_of
env_update a k v l h = fun_ext (λ j. ap (λ (s : Set). lay (s j) 0) (says-update a k v l h) ∙ go j (eqb j k))
  where
    go : (j : ℕ) (b : Bool) → lay (cond b (non_null v) (says a j)) 0 ≡ cond b v (lay (says a j) 0)
    go j true = lay-value v
    go j false = refl

pub says_in : (s : Set) (k : ℕ) → k < 16 → says (packed s) k ≡ s k
says_in s k l = ap (λ (t : Set). t k) (says-packed s) ∙ within-at s k l

pub env_in : (e : Env) (k : ℕ) → k < 16 → env_of (packed (as_set e)) k ≡ e k
env_in e k l = env_of-says (packed (as_set e)) k ∙ ap (λ (s : Slot). lay s 0) (says_in (as_set e) k l) ∙ lay-value (e k)

pub env-packed : (e : Env) → ((k : ℕ) → 16 ≤ k → e k ≡ 0) → env_of (packed (as_set e)) ≡ e
env-packed e h = fun_ext (λ k. go k (ltb k 16) refl)
  where
    go : (k : ℕ) (b : Bool) → ltb k 16 ≡ b → env_of (packed (as_set e)) k ≡ e k
    go k true q = env_in e k (ltb-true k 16 q)
    go k false q = env-past (packed (as_set e)) k (ltb-false k 16 q) ∙ sym (h k (ltb-false k 16 q))

-- a set without nulls and without hidden bytes is what it puts in force
pub force-packed : (a : Attrs) → Canonical a → says a ≡ as_set (env_of a) → packed (as_set (env_of a)) ≡ a
force-packed a c e = ap packed (sym e) ∙ c

-- ---- packed sets in, packed sets out

pub packed_none : packed empty ≡ packed (as_set none)
packed_none = refl

pub put-packed : (s : Set) (k : ℕ) (x : Slot) → onto (packed s) (at k x (says (packed s))) ≡ packed (at k x s)
put-packed s k x =
    onto-packed (at k x (says (packed s))) s ∙ packed_ext (at k x (says (packed s))) (at k x s) (λ j l. ap (cond (eqb j k) x) (says_in s j l))

module _ (e : Env) where
  pub update-packed : (k v : ℕ) → k < 16 → v < 256 → update_at (packed (as_set e)) k v ≡ taken (packed (as_set (at k v e)))
  update-packed k v l h =
      update-takes (packed (as_set e)) k v l h
      ∙ ap taken (put-packed (as_set e) k (non_null v) ∙ packed_ext (at k (non_null v) (as_set e)) (as_set (at k v e)) (λ j g. go j (eqb j k)))
    where
      go : (j : ℕ) (b : Bool) → cond b (non_null v) (non_null (e j)) ≡ non_null (cond b v (e j))
      go j true = refl
      go j false = refl

  module _ (s : Set) where
    -- what is said and what is in force may be read off what was packed
    both-in : (f : Slot → ℕ → Slot) (k : ℕ) → k < 16 → f (says (packed s) k) (env_of (packed (as_set e)) k) ≡ f (s k) (e k)
    both-in f k l = ap₂ f (says_in s k l) (env_in e k l)

    pub unset-packed : onto (packed s) (completed (says (packed s)) (env_of (packed (as_set e)))) ≡ packed (completed s e)
    unset-packed =
        onto-packed (completed (says (packed s)) (env_of (packed (as_set e)))) s
        ∙ packed_ext (completed (says (packed s)) (env_of (packed (as_set e)))) (completed s e) (both-in null_for)

    pub opened_packed : packed (opened (says (packed s)) (env_of (packed (as_set e)))) ≡ packed (opened s e)
    opened_packed =
        packed_ext (opened (says (packed s)) (env_of (packed (as_set e)))) (opened s e) (both-in (λ x v. cond (differs x v) x absent))

    pub former-packed : packed (former (says (packed s)) (env_of (packed (as_set e)))) ≡ packed (former s e)
    former-packed =
        packed_ext (former (says (packed s)) (env_of (packed (as_set e)))) (former s e) (both-in (λ x v. cond (differs x v) (is v) absent))

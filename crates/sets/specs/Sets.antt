-- What an attribute set says, what is in force, and what the rules make of the two: each for any key.
use Rattle.std.specs.Prelude.{ℕ, Bool, true, false, cond, not, ◌&&◌, List, [], ◌∷◌, eqb, ltb}

-- What a set says at a key: nothing, null (`is 0`), or a value.
pub data Slot : Type 0 where
  absent : Slot
  is : ℕ → Slot

abbrev pub Set : Type 0
Set = ℕ → Slot

abbrev pub empty : Set
empty k = absent

-- What is in force at a place, by key; 0 is none, so null counts as none.
abbrev pub Env : Type 0
Env = ℕ → ℕ

abbrev pub none : Env
none k = 0

-- The keys, in the order in which every rule takes them.
unfoldable pub keys : List ℕ
keys = 0 ∷ 1 ∷ 2 ∷ 3 ∷ 4 ∷ 5 ∷ 6 ∷ 7 ∷ 8 ∷ 9 ∷ 10 ∷ 11 ∷ 12 ∷ 13 ∷ 14 ∷ 15 ∷ []

-- A function with another answer at k.
abbrev pub at {ℓ} : {A : Type ℓ} → ℕ → A → (ℕ → A) → ℕ → A
at k x f j = cond (eqb j k) x (f j)

abbrev pub is_absent : Slot → Bool
is_absent absent = true
is_absent (is v) = false

-- Is the set without keys?
abbrev pub bare : List ℕ → Set → Bool
bare [] a = true
bare (k ∷ ks) a = is_absent (a k) && bare ks a

-- Is nothing in force?
abbrev pub is_none : List ℕ → Env → Bool
is_none [] e = true
is_none (k ∷ ks) e = eqb (e k) 0 && is_none ks e

-- Is the same in force?
abbrev pub same_force : List ℕ → Env → Env → Bool
same_force [] e f = true
same_force (k ∷ ks) e f = eqb (e k) (f k) && same_force ks e f

-- What a slot makes of the value in force: it overrides, and null removes.
abbrev pub lay : Slot → ℕ → ℕ
lay absent v = v
lay (is w) v = w

-- The values in force, as a set without nulls.
abbrev pub non_null : ℕ → Slot
non_null v = cond (eqb v 0) absent (is v)

abbrev pub as_set : Env → Set
as_set e k = non_null (e k)

-- Does the slot hold just this value?
abbrev pub slot_is : Slot → ℕ → Bool
slot_is absent v = false
slot_is (is w) v = eqb w v

-- Is the slot there, with another value than the one in force?
abbrev pub differs : Slot → ℕ → Bool
differs absent v = false
differs (is w) v = not (eqb w v)

-- Rule Open: the keys of a set whose value is not the one in force, with the set's values ..
abbrev pub opened : Set → Env → Set
opened a e k = cond (differs (a k) (e k)) (a k) absent

-- .. and the same keys with the values in force, null for none: what is remembered.
abbrev pub former : Set → Env → Set
former a e k = cond (differs (a k) (e k)) (is (e k)) absent

-- Rule "text or embed with A": a null for each key that is in force and that the set lacks.
abbrev pub null_for : Slot → ℕ → Slot
null_for absent v = cond (eqb v 0) absent (is 0)
null_for (is w) v = is w

abbrev pub completed : Set → Env → Set
completed a e k = null_for (a k) (e k)

-- A set has keys up to 15 only.
abbrev pub within : Set → Set
within s k = cond (ltb k 16) (s k) absent

-- Do two sets say the same?
abbrev pub same_slot : Slot → Slot → Bool
same_slot absent absent = true
same_slot absent (is w) = false
same_slot (is v) absent = false
same_slot (is v) (is w) = eqb v w

abbrev pub same_sets : List ℕ → Set → Set → Bool
same_sets [] a b = true
same_sets (k ∷ ks) a b = same_slot (a k) (b k) && same_sets ks a b

-- The keys of a list that pass a test, in the list's order ..
abbrev pub those : (ℕ → Bool) → List ℕ → List ℕ
those p [] = []
those p (k ∷ ks) = cond (p k) (k ∷ those p ks) (those p ks)

-- .. and those that a set has.
abbrev pub present : List ℕ → Set → List ℕ
present ks s = those (λ k. not (is_absent (s k))) ks

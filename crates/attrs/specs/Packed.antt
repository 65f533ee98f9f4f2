-- What a set in memory says, the set that says a thing, and what the functions of the crate make of a set.
use Rattle.std.specs.Prelude.{◌≡◌, Bool, cond, ◌&&◌, List, [], ◌∷◌, ℕ, zero, suc, ◌+◌, ◌*◌, ◌^◌, ◌<◌, ltb, length, get_or, Result}
use Rattle.std.specs.Result.{result_unwrap_or}
use Rattle.attrs.specs.declared.Attrs.{Attrs}
use Rattle.refusal.specs.declared.Refusal.{Refusal}
use Rattle.refusal.specs.Numbers.{refusal_in}
use Rattle.sets.specs.Sets.{Slot, absent, is, Set, Env, at, lay, non_null, differs, within}
use Rattle.sets.specs.Bits.{bit}

-- What lies in memory for a key: a byte that no reader sees, since the key is absent, or a value that is held.
pub data Held : Type 0 where
  hidden : ℕ → Held
  holds : ℕ → Held

abbrev pub held : ℕ → ℕ → Held
held zero v = hidden v
held (suc b) v = holds v

unfoldable pub look : Attrs → ℕ → Held
look a k = held (bit a.mask k) (get_or a.values k 0)

-- What a reader sees of it.
abbrev pub seen : Held → Slot
seen (hidden v) = absent
seen (holds v) = is v

-- What a set says at a key ..
unfoldable pub says : Attrs → Set
says a = within (λ k. seen (look a k))

-- .. and what it puts in force, where nothing else is.
unfoldable pub env_of : Attrs → Env
env_of a k = lay (says a k) 0

-- ---- a set from what lies at each key

abbrev pub flag : Held → ℕ
flag (hidden v) = 0
flag (holds v) = 1

abbrev pub byte : Held → ℕ
byte (hidden v) = v
byte (holds v) = v

unfoldable pub mask_of : ℕ → (ℕ → Held) → ℕ
mask_of zero f = 0
mask_of (suc n) f = flag (f 0) + 2 * mask_of n (λ k. f (suc k))

unfoldable pub values_of : ℕ → (ℕ → Held) → List ℕ
values_of zero f = []
values_of (suc n) f = byte (f 0) ∷ values_of n (λ k. f (suc k))

unfoldable pub make : (ℕ → Held) → Attrs
make f = record { mask = mask_of 16 f; values = values_of 16 f }

-- What storing a slot makes of what lay there: a key that stays absent keeps its byte, one that goes leaves 0.
abbrev pub store : Slot → Held → Held
store absent (hidden v) = hidden v
store absent (holds v) = hidden 0
store (is w) h = holds w

-- The set that says s, made of nothing ..
unfoldable pub packed : Set → Attrs
packed s = make (λ k. store (s k) (hidden 0))

-- .. or made of the set a.
unfoldable pub onto : Attrs → Set → Attrs
onto a s = make (λ k. store (s k) (look a k))

-- ---- what the functions answer

-- A refusal number, 0 for none, and the set: the new one, or the one that was asked where it is refused.
pub record Took : Type 0 where
  pub refusal : ℕ
  pub attrs : Attrs

abbrev pub took : Attrs → Result Attrs Refusal → Took
took a r = record { refusal = refusal_in r; attrs = result_unwrap_or r a }

-- Refusal 16 (KEY), exactly for a key over 15 or a value over 255.
abbrev pub takes : ℕ → ℕ → Bool
takes k v = ltb k 16 && ltb v 256

abbrev pub refused : Attrs → Took
refused a = record { refusal = 16; attrs = a }

abbrev pub taken : Attrs → Took
taken a = record { refusal = 0; attrs = a }

abbrev pub with_at : Attrs → ℕ → ℕ → Took
with_at a k v = cond (takes k v) (taken (onto a (at k (is v) (says a)))) (refused a)

-- A value is set, null removes.
abbrev pub update_at : Attrs → ℕ → ℕ → Took
update_at a k v = cond (takes k v) (taken (onto a (at k (non_null v) (says a)))) (refused a)

-- The keys of a set whose value is not the one in force, with other values.
abbrev pub changed : Set → Env → Env → Set
changed a e f k = cond (differs (a k) (e k)) (is (f k)) absent

-- What `get` answers; a value is a byte.
pub record Got (a : Attrs) (k r : ℕ) : Type 0 where
  pub is : r ≡ env_of a k
  pub small : r < 256

-- What every value of the type is.
pub record Whole (a : Attrs) : Type 0 where
  pub fits : a.mask < 2 ^ 16
  pub long : length a.values ≡ 16

-- The bits of a key mask, and the walk over its keys by the lowest bit that is set.
use Rattle.std.specs.Prelude.{◌≡◌, List, [], ◌∷◌, ℕ, zero, suc, ◌-◌, ◌/◌, ◌%◌, ◌^◌, ◌≤◌, ◌<◌, eqb, Option, Some, None}
use Rattle.std.specs.Int.Count.{count_trailing_zeros}
use Rattle.sets.specs.Sets.{keys, those, at}

-- The bit of m that stands for the key k.
unfoldable pub bit : ℕ → ℕ → ℕ
bit m zero = m % 2
bit m (suc k) = bit (m / 2) k

-- The keys of a mask, ascending.
unfoldable pub keys_of : ℕ → List ℕ
keys_of m = those (λ k. eqb (bit m k) 1) keys

-- The first of them, if there is one.
abbrev pub first_key : List ℕ → Option ℕ
first_key [] = None
first_key (k ∷ ks) = Some k

-- A mask without its lowest key; 0 has none.
abbrev pub rest_of : ℕ → ℕ
rest_of m = m - 2 ^ count_trailing_zeros 16 m

-- What the functions on masks answer, with the bounds that callers ask for.
pub record Rest (m r : ℕ) : Type 0 where
  pub is : r ≡ rest_of m
  pub less : r ≤ m - 1

pub record BitIs (m k r : ℕ) : Type 0 where
  pub is : r ≡ bit m k
  pub lt : r < 2

pub record BitSet (m k r : ℕ) : Type 0 where
  pub each : (j : ℕ) → bit r j ≡ at k 1 (bit m) j

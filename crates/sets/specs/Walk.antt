-- The walk over the keys of a mask, one after the other.
use Rattle.std.specs.Prelude.{◌≡◌, ℕ, Option, Some, MatchOption}
use Rattle.sets.specs.declared.KeyWalk.{KeyWalk}
use Rattle.sets.specs.Bits.{keys_of, first_key, Rest}

-- Each step takes the lowest key of those that are left; the walk ends where none is.
abbrev pub Steps : KeyWalk → Option ℕ → KeyWalk → Type 0
Steps s key t = MatchOption key ((s.left ≡ 0) × (t.left ≡ 0)) (λ k. (first_key (keys_of s.left) ≡ Some k) × Rest s.left t.left)

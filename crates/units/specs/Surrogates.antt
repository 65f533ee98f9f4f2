-- UTF-16 units, and where they may be cut.
use Rattle.std.specs.Prelude.{ℕ, zero, suc, ◌+◌, Bool, true, false, cond, not, ◌&&◌, ◌||◌, List, [], ◌∷◌, leb, ltb, get_or}

-- The first half of a surrogate pair: D800 to DBFF.
abbrev pub is_high : ℕ → Bool
is_high u = leb 0xD800 u && ltb u 0xDC00

-- The second half: DC00 to DFFF.
abbrev pub is_low : ℕ → Bool
is_low u = leb 0xDC00 u && ltb u 0xE000

-- Every high one is followed at once by a low one, and every low one preceded by a high one;
-- the first argument says whether a high one stands just before.
abbrev pub paired_from : Bool → List ℕ → Bool
paired_from held [] = not held
paired_from true (u ∷ us) = is_low u && paired_from false us
paired_from false (u ∷ us) = not (is_low u) && paired_from (is_high u) us

-- Whole text (refusal UNITS, 3, where it is not): no surrogate without its other half.
abbrev pub paired : List ℕ → Bool
paired us = paired_from false us

-- An index inside a pair (refusal PAIR, 2): a high one stands before it and a low one behind it.
abbrev pub splits_pair : List ℕ → ℕ → Bool
splits_pair us zero = false
splits_pair us (suc n) = is_high (get_or us n 0) && is_low (get_or us (suc n) 0)

-- How many units are halves of pairs.
abbrev pub half_of : ℕ → ℕ
half_of u = cond (is_high u || is_low u) 1 0

abbrev pub halves : List ℕ → ℕ
halves [] = 0
halves (u ∷ us) = half_of u + halves us

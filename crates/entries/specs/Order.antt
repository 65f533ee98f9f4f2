-- When slots are in order.
use Rattle.std.specs.Prelude.{ℕ, zero, suc, ◌+◌, ◌*◌, Bool, true, false, cond, List, [], ◌∷◌, get_or, eqb, ltb, leb}
use Rattle.entries.specs.Entry.{length_at, kind_at, entries, among}

-- Kind, length and first byte in range: a name has 1 to 32 bytes, a bool one that is 0 or 1, an integer 8, a string at most 32.
unfoldable pub fits : ℕ → ℕ → ℕ → Bool
fits k n b =
    cond (eqb k 0) (cond (eqb n 0) false (leb n 32))
    (cond (eqb k 1) (cond (eqb n 1) (leb b 1) false)
    (cond (eqb k 2) (eqb n 8)
    (cond (eqb k 3) (leb n 32) false)))

-- A slot is in order: names, and nothing else, lie in the first 16.
unfoldable pub fits_at : List ℕ → ℕ → Bool
fits_at m s =
    cond (ltb s 16) (cond (eqb (kind_at m s) 0) (fits (kind_at m s) (length_at m s) (get_or m (s * 34 + 2) 0)) false)
    (cond (eqb (kind_at m s) 0) false (fits (kind_at m s) (length_at m s) (get_or m (s * 34 + 2) 0)))

unfoldable pub all_fit : List ℕ → ℕ → ℕ → Bool
all_fit m s zero = true
all_fit m s (suc n) = cond (fits_at m s) (all_fit m (suc s) n) false

-- No entry comes again behind itself.
unfoldable pub distinct : List (List ℕ) → Bool
distinct [] = true
distinct (e ∷ es) = cond (among e es) false (distinct es)

-- The slots from s on that are in use: not too many, each in order, no two equal.
unfoldable pub shelf_sound : List ℕ → ℕ → ℕ → ℕ → Bool
shelf_sound m s n most = cond (leb n most) (cond (all_fit m s n) (distinct (entries m s n)) false) false

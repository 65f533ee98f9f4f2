-- A table's bytes as entries. 271 slots of 34 bytes: names in slots 0 to 15, values in slots 16 to 270.
-- A slot holds the content's length, the kind, and the content; what lies behind the content is not looked at.
use Rattle.std.specs.Prelude.{ℕ, zero, suc, ◌+◌, ◌*◌, min, Bool, true, false, cond, List, [], ◌∷◌, length, get_or, take, drop, eqb, ltb}
use Rattle.std.proofs.lemmas.List.Edits.{sets}

abbrev pub length_at : List ℕ → ℕ → ℕ
length_at m s = get_or m (s * 34) 0

abbrev pub kind_at : List ℕ → ℕ → ℕ
kind_at m s = get_or m (s * 34 + 1) 0

-- A slot's content: as many bytes as its length says, and never more than the slot holds.
unfoldable pub content_at : List ℕ → ℕ → List ℕ
content_at m s = take (min (length_at m s) 32) (drop (s * 34 + 2) m)

-- An entry is its kind and, behind it, its content.
unfoldable pub entry_at : List ℕ → ℕ → List ℕ
entry_at m s = kind_at m s ∷ content_at m s

-- The entries of n slots from slot s on.
unfoldable pub entries : List ℕ → ℕ → ℕ → List (List ℕ)
entries m s zero = []
entries m s (suc n) = entry_at m s ∷ entries m (suc s) n

-- The comparison of two entries: the same bytes from the first to the last.
unfoldable pub same_bytes : List ℕ → List ℕ → Bool
same_bytes [] [] = true
same_bytes [] (y ∷ ys) = false
same_bytes (x ∷ xs) [] = false
same_bytes (x ∷ xs) (y ∷ ys) = cond (eqb x y) (same_bytes xs ys) false

-- How many entries stand before the first that equals e: all of them, where none does.
unfoldable pub seek : List ℕ → List (List ℕ) → ℕ
seek e [] = 0
seek e (x ∷ xs) = cond (same_bytes x e) 0 (suc (seek e xs))

-- An entry is among others where the search for it stops before their end.
unfoldable pub among : List ℕ → List (List ℕ) → Bool
among e xs = ltb (seek e xs) (length xs)

-- A new entry writes its own length, kind and content, and no byte else.
unfoldable pub put_at : List ℕ → ℕ → ℕ → List ℕ → List ℕ
put_at m s k c = sets m (s * 34) (length c ∷ k ∷ c)

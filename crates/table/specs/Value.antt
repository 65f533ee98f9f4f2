-- Values, and the entries that stand for them.
use Rattle.std.specs.Prelude.{ℕ, Bool, cond, List, [], ◌∷◌, ℤ}
use Rattle.std.specs.Int.{w64}
use Rattle.std.proofs.Common.{of_z}
use Rattle.entries.specs.Number.{low_bytes}

pub data Value : Type 0 where
  bool : Bool → Value
  int : ℤ → Value
  string : List ℕ → Value

-- A bool is of kind 1 with the byte 0 or 1, an integer of kind 2 with the eight bytes of its two's complement, a string of kind 3.
unfoldable pub kind_of : Value → ℕ
kind_of (bool b) = 1
kind_of (int z) = 2
kind_of (string c) = 3

unfoldable pub content_of : Value → List ℕ
content_of (bool b) = cond b 1 0 ∷ []
content_of (int z) = low_bytes 8 (of_z w64 z)
content_of (string c) = c

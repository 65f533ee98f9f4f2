-- Numbers as bytes.
use Rattle.std.specs.Prelude.{ℕ, zero, suc, ◌+◌, ◌*◌, ◌/◌, ◌%◌, List, [], ◌∷◌}

-- The lowest n bytes of a number, low byte first, and the number that bytes make.
unfoldable pub low_bytes : ℕ → ℕ → List ℕ
low_bytes zero u = []
low_bytes (suc n) u = u % 256 ∷ low_bytes n (u / 256)

unfoldable pub number_of : List ℕ → ℕ
number_of [] = 0
number_of (b ∷ bs) = number_of bs * 256 + b

-- The laws of counting: how the width of a text and the place where a count ends go together.
use Prim.Native.Nat.{ℕ, ◌+◌, ◌-◌, ◌≤◌}
use mathlib.Core.Path.{◌≡◌, refl, sym, ap, ◌∙◌}
use mathlib.Core.List.{◌++◌}
use native.Mathlib.Omega.{arith}
use Rattle.rules.specs.Sheet.{text, width}
use Rattle.rules.specs.Reading.{units_of, glyphs}
use Rattle.rules.specs.Places.{left_half, right_half}
use Rattle.laws.proofs.Places.{units_add}

-- The left half is as wide as the count ..
pub cut_left : (n s w : ℕ) → width (left_half n (text s w)) ≡ n
cut_left n s w = refl

-- .. and with the right half as wide as the whole.
pub cut-width : (n s w : ℕ) → n ≤ w → width (left_half n (text s w)) + width (right_half n (text s w)) ≡ width (text s w)
cut-width n s w h = omega arith

-- The halves show what the whole shows.
pub cut-shows : (n s w : ℕ) → n ≤ w → glyphs (left_half n (text s w)) ++ glyphs (right_half n (text s w)) ≡ glyphs (text s w)
cut-shows n s w h = let e : w ≡ n + (w - n) = omega arith in sym (ap (units_of s) e ∙ units_add s n (w - n))

-- Where no unit is half of a pair, nothing visible is, and no index cuts a pair. Assumes nothing.
use Prim.Native.Nat.{ℕ}
use native.Mathlib.Omega.{arith}
use mathlib.Core.Path.{◌≡◌, refl}
use mathlib.Core.Bool.{false}
use mathlib.Core.List.{List, [], ◌∷◌, map}
use Rattle.units.specs.Surrogates.{splits_pair, halves}
use Rattle.units.proofs.Plain.{plain_at, plain_cuts}
use Rattle.rules.specs.Sheet.{Item}
use Rattle.rules.specs.Reading.{Glyph, unit, thing, seen_glyphs}
use Rattle.rules.specs.Calls.{unit_at, visible_units}

module _ (us : List ℕ) (e : halves us ≡ 0) where
  none-shown : (gs : List Glyph) → halves (map (unit_at us) gs) ≡ 0
  none-shown [] = refl
  none-shown (unit i ∷ gs) = omega (arith, plain_at us i e, none-shown gs)
  none-shown (thing x ∷ gs) = omega (arith, none-shown gs)

pub none-cut : (us : List ℕ) (l : List Item) (n : ℕ) → halves us ≡ 0 → splits_pair (visible_units us l) n ≡ false
none-cut us l n e = plain_cuts (visible_units us l) n (none-shown us e (seen_glyphs l))

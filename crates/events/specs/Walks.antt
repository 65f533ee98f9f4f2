-- What the walks of an event ask of a sheet, and what they leave.
use Rattle.std.specs.Prelude.{ℕ, ◌≤◌, ◌≡◌, Bool, true, cond, List, [], ◌∷◌, ◌++◌, length}
use Rattle.rules.specs.Sheet.{What, text, embed, mark, Item}
use Rattle.rules.specs.Sound.{AllFit}
use Rattle.rules.specs.Reading.{Glyph, units_of}
use Rattle.rules.specs.Event.{Asm, gather, fresh, told_units}
use Rattle.layout.specs.declared.head.Head.{Head}
use Rattle.layout.specs.Chain.{walks}
use Rattle.layout.specs.Memory.{list_of}
use Rattle.events.specs.declared.event.Written.{Written}
use Rattle.assembling.specs.Steps.{was_by, is_by}
use Rattle.events.specs.Told.{Ops, delta_ops, tell_all, begun}

-- what the walks need of a sound sheet
pub record Walkable (h : Head) (m : List ℕ) : Type 0 where
  pub words : length m ≡ 2048
  pub items : h.items ≤ 2048
  pub used : h.units ≤ 16384
  pub walk : walks h.items h.items m h.first ≡ true
  pub fit : AllFit h.units (list_of h m)

-- All operations, trailing plain Retains too, of an event or of what undoes it.
abbrev pub gathered : Bool → Asm → List Item → Ops
gathered back t l = gather (was_by back) (is_by back) t l

-- the answer and the numbers at exit
pub record Walked (back : Bool) (limit : ℕ) (l : List Item) (r : Written) (w₀ w : List ℕ) : Type 0 where
  pub ops : r.ops ≡ (tell_all limit (begun w₀) (delta_ops 0 (gathered back fresh l))).kept
  pub units : r.units ≡ told_units (gathered back fresh l)
  pub words : w ≡ (tell_all limit (begun w₀) (delta_ops 0 (gathered back fresh l))).words

-- The text that an item gives anew: one that was not seen and is seen.
abbrev pub text_glyphs : What → List Glyph
text_glyphs (text s n) = units_of s n
text_glyphs (embed e) = []
text_glyphs (mark k v) = []

abbrev pub new_glyphs : Bool → Bool → What → List Glyph
new_glyphs was now w = cond was [] (cond now (text_glyphs w) [])

-- The units that all items give anew.
unfoldable pub given_by : Bool → List Item → List Glyph
given_by back [] = []
given_by back (i ∷ l) = new_glyphs (was_by back i.flags) (is_by back i.flags) i.what ++ given_by back l

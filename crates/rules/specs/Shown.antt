-- What is handed out of a sheet without changing it.
use Rattle.std.specs.Prelude.{ℕ, cond, List, [], ◌∷◌, map, eqb, take, drop}
use Rattle.rules.specs.Sheet.{What, text, embed, mark, Item}
use Rattle.rules.specs.Reading.{live, before, visible, Glyph, seen_glyphs, Op}
use Rattle.rules.specs.Event.{event}
use Rattle.rules.specs.Runs.{Run, runs, joined}
use Rattle.rules.specs.Calls.{Sheet, unit_at}

abbrev pub length_of : Sheet → ℕ
length_of s = visible s.items

abbrev pub runs_of : Sheet → List Run
runs_of s = runs s.items

abbrev pub joined_of : Sheet → List Run
joined_of s = joined (runs_of s)

-- The event: what the running transaction did, as a delta over what stood before it.
abbrev pub event_of : Sheet → List (Op (List Glyph))
event_of s = event before live s.items

-- The units of a text, as they lie in the sheet's units; nothing for an embed or a mark.
abbrev pub text_of : List ℕ → What → List ℕ
text_of us (text s n) = take n (drop s us)
text_of us (embed e) = []
text_of us (mark k v) = []

-- Text of one item, by its number, deleted or not; nothing for a number that is not in use.
abbrev pub text_in : List ℕ → ℕ → List Item → List ℕ
text_in us j [] = []
text_in us j (i ∷ l) = let on = text_in us j l in cond (eqb j i.num) (text_of us i.what) on

abbrev pub item_text : ℕ → Sheet → List ℕ
item_text j s = text_in s.units j s.items

-- The visible text of a range: what of it lies inside the visible text, unit by unit; an embed shows as 0.
abbrev pub range_glyphs : ℕ → ℕ → Sheet → List Glyph
range_glyphs i n s = take n (drop i (seen_glyphs s.items))

abbrev pub range_text : ℕ → ℕ → Sheet → List ℕ
range_text i n s = map (unit_at s.units) (range_glyphs i n s)

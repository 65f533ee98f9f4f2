-- What a reader sees: units and embeds with the values in force on them, and what a delta makes of these.
use Rattle.std.specs.Prelude.{ℕ, zero, suc, ◌+◌, Bool, cond, not, ◌&&◌, ◌||◌, List, [], ◌∷◌, ◌++◌, map, eqb, take, drop}
use Rattle.sets.specs.Sets.{Slot, Set, lay}
use Rattle.rules.specs.Sheet.{What, text, embed, mark, Flags, Item, width}

-- A reading goes by which items it sees, and that by their flags alone.
abbrev pub Seen : Type 0
Seen = Flags → Bool

-- now: the live ones
abbrev pub live : Seen
live f = not f.dead

-- before the transaction: not added, and live or deleted now
abbrev pub before : Seen
before f = not f.added && (not f.dead || f.gone)

-- The value of key j after an item, from the one before it.
abbrev pub set_key : ℕ → What → ℕ → ℕ
set_key j (text s n) v = v
set_key j (embed e) v = v
set_key j (mark k w) v = cond (eqb j k) w v

abbrev pub pass_key : Seen → ℕ → Item → ℕ → ℕ
pass_key seen j i v = cond (seen i.flags) (set_key j i.what v) v

-- Rule In force: the last mark of key j that is seen decides, and 0, which is null, is the same as no mark.
-- So this is the value of key j right of a list, from the one left of it.
abbrev pub force : Seen → ℕ → ℕ → List Item → ℕ
force seen j v [] = v
force seen j v (i ∷ l) = force seen j (pass_key seen j i v) l

-- What is seen of an item: its units, each by its place in the sheet's units, or its embed.
pub data Glyph : Type 0 where
  unit : ℕ → Glyph
  thing : ℕ → Glyph

abbrev pub units_of : ℕ → ℕ → List Glyph
units_of s zero = []
units_of s (suc n) = unit s ∷ units_of (suc s) n

abbrev pub glyphs : What → List Glyph
glyphs (text s n) = units_of s n
glyphs (embed e) = thing e ∷ []
glyphs (mark k v) = []

-- A cell: a unit or embed, and the value in force there of one key.
pub record Cell : Type 0 where
  pub glyph : Glyph
  pub value : ℕ

abbrev pub paint : ℕ → List Glyph → List Cell
paint v [] = []
paint v (g ∷ gs) = record { glyph = g; value = v } ∷ paint v gs

abbrev pub shown : Seen → Item → ℕ → List Cell
shown seen i v = cond (seen i.flags) (paint v (glyphs i.what)) []

-- The cells of a list, seen by key j, from the value left of it.
abbrev pub cells : Seen → ℕ → ℕ → List Item → List Cell
cells seen j v [] = []
cells seen j v (i ∷ l) = shown seen i v ++ cells seen j (pass_key seen j i v) l

-- The visible units and embeds, without their attributes.
abbrev pub seen_glyphs : List Item → List Glyph
seen_glyphs [] = []
seen_glyphs (i ∷ l) = cond (live i.flags) (glyphs i.what) [] ++ seen_glyphs l

-- Visible length: the widths of the live items, added up.
abbrev pub visible : List Item → ℕ
visible [] = 0
visible (i ∷ l) = cond (live i.flags) (width i.what) 0 + visible l

-- An operation of a delta; C is what an Inserted holds.
pub data Op (C : Type 0) : Type 0 where
  insert : C → Set → Op C
  delete : ℕ → Op C
  retain : ℕ → Set → Op C

abbrev pub lay_cell : Slot → Cell → Cell
lay_cell s c = record { glyph = c.glyph; value = lay s c.value }

-- Rule Reading, for one key: a Retain keeps the next n cells and lays its value on each (null takes the key away), a Deleted
-- leaves the next n out, an Inserted adds its units with its own value and no other; cells after the last operation stay.
abbrev pub read : ℕ → List (Op (List Glyph)) → List Cell → List Cell
read j [] cs = cs
read j (insert gs a ∷ ops) cs = paint (lay (a j) 0) gs ++ read j ops cs
read j (delete n ∷ ops) cs = read j ops (drop n cs)
read j (retain n a ∷ ops) cs = map (lay_cell (a j)) (take n cs) ++ read j ops (drop n cs)

-- The rules' moves by name, as the edits carry them out.
use Rattle.std.specs.Prelude.{ℕ, Bool, cond, ◌||◌, List}
use Rattle.sets.specs.Sets.{Set, opened}
use Rattle.rules.specs.Sheet.{Item, dead}
use Rattle.rules.specs.Places.{Move, settle, agrees, marks, put, put_marks, forget}

-- Rules Settle and Close pass this item.
abbrev pub passable : Set → Item → Bool
passable a i = dead i || agrees a i.what

abbrev pub settling : Set → Move
settling a e l m = settle a l m

-- A mark for each key of a set, and for those of a list alone.
abbrev pub putting_at : List ℕ → Set → Move
putting_at ks a e l m = put (marks ks a m) l m

abbrev pub putting : Set → Move
putting a e l m = put_marks a l m

-- Rule Open's marks.
abbrev pub opener : Set → Move
opener a e l m = put_marks (opened a e) l m

-- What Close still remembers behind an item that it passes.
abbrev pub dropping : Set → Item → Set
dropping r i = cond (dead i) r (forget i.what r)

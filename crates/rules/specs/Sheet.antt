-- What a sheet holds: items in a row, each live or deleted.
use Rattle.std.specs.Prelude.{ℕ, Bool, true, false, List, map}

-- The three kinds of items. A text is a part of the sheet's units, by where it starts and its length (1 or more);
-- an embed is a 32-bit number that counts as one unit; a mark says that a key has a value from here on, and is 0 long.
pub data What : Type 0 where
  text : ℕ → ℕ → What
  embed : ℕ → What
  mark : ℕ → ℕ → What

-- An item's state: deleted (`dead`; it keeps its place in the row), and whether the running transaction
-- added it (`added`) or deleted it (`gone`).
pub record Flags : Type 0 where
  pub dead : Bool
  pub added : Bool
  pub gone : Bool

pub record Item : Type 0 where
  pub num : ℕ
  pub what : What
  pub flags : Flags

abbrev pub dead : Item → Bool
dead i = i.flags.dead

-- an item of another number and kind, with the same state and flags
abbrev pub like : Item → ℕ → What → Item
like i m w = record { num = m; what = w; flags = i.flags }

-- a new item: live, and added now
abbrev pub new : ℕ → What → Item
new m w = record { num = m; what = w; flags = record { dead = false; added = true; gone = false } }

-- an item deleted now
abbrev pub kill : Item → Item
kill i = record { num = i.num; what = i.what; flags = record { dead = true; added = i.flags.added; gone = true } }

-- Rule Begin: no item counts as added or deleted now any more; what is deleted stays deleted.
abbrev pub rested : Item → Item
rested i = record { num = i.num; what = i.what; flags = record { dead = i.flags.dead; added = false; gone = false } }

abbrev pub begin : List Item → List Item
begin l = map rested l

-- The measure: how much of an index or a length an item takes up. The rules of the list and the event count by `width`
-- alone, and cut a text by `Places.cut_at`, where the count ends; the laws that tie the two are in proofs/Measure. The tests of
-- the calls (PAIR, SHORT) and the reading of a delta count glyphs one by one. Another measure enters at these places.
abbrev pub width : What → ℕ
width (text s n) = n
width (embed e) = 1
width (mark k v) = 0

abbrev pub is_mark : What → Bool
is_mark (text s n) = false
is_mark (embed e) = false
is_mark (mark k v) = true

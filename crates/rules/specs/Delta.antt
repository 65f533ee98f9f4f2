-- A delta: its operations one after the other, from the head, where nothing is in force.
use Rattle.std.specs.Prelude.{ℕ, zero, suc, List, [], ◌∷◌}
use Rattle.sets.specs.Sets.{Set, none}
use Rattle.rules.specs.Sheet.{What, text, embed, Item}
use Rattle.rules.specs.Reading.{Op, insert, delete, retain, Glyph, glyphs}
use Rattle.rules.specs.Places.{At, stay, Move, and_then}
use Rattle.rules.specs.Edits.{insert_with, format, delete_here}

-- What an Inserted holds: a text, by where its units will stand and its length, or an embed.
pub data Given : Type 0 where
  new_text : ℕ → ℕ → Given
  new_embed : ℕ → Given

abbrev pub what : Given → What
what (new_text s n) = text s n
what (new_embed x) = embed x

-- Rule Inserted: an insertion with its set at the place reached; none handed in is the empty set. Empty text does nothing,
-- not even settle.
abbrev pub insert_here : Given → Set → Move
insert_here (new_text s zero) a e l m = stay l m
insert_here (new_text s (suc n)) a e l m = insert_with (text s (suc n)) a e l m
insert_here (new_embed x) a e l m = insert_with (embed x) a e l m

-- Rules Retain and Deleted: Format and Remove from the place reached.
abbrev pub move : Op Given → Move
move (insert g a) = insert_here g a
move (delete n) = delete_here n
move (retain n a) = format a n

-- One operation after the other. The place is past what was put, and after a Deleted where it stopped;
-- what is in force is read off the list left of the place.
abbrev pub carry_out : List (Op Given) → At → At
carry_out [] p = p
carry_out (op ∷ ops) p = carry_out ops (and_then none p (move op))

abbrev pub delta : List (Op Given) → List Item → ℕ → At
delta ops l m = carry_out ops (stay l m)

-- the delta as its reader sees it
abbrev pub spelt : Op Given → Op (List Glyph)
spelt (insert g a) = insert (glyphs (what g)) a
spelt (delete n) = delete n
spelt (retain n a) = retain n a

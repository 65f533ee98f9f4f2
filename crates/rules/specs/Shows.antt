-- What an accepted call shows of one key: the cells it leaves, from the cells it found.
use Rattle.std.specs.Prelude.{ℕ, ◌+◌, ◌-◌, ◌≤◌, ◌<◌, ◌≡◌, cond, List, [], ◌∷◌, ◌++◌, map, leb, length, get_or, take, drop}
use Rattle.sets.specs.Sets.{lay}
use Rattle.rules.specs.Sheet.{Item}
use Rattle.rules.specs.Reading.{live, force, Glyph, thing, units_of, Cell, paint, cells, lay_cell, visible, Op, insert, delete, retain, read}
use Rattle.rules.specs.Delta.{spelt}
use Rattle.rules.specs.Calls.{Sheet, Body, words, object, Call, insert_text, insert_text_with, insert_embed, insert_embed_with, format_range, remove_range, apply_delta, begin_now, laid_out}

-- the value on the last cell, or v where there is none
abbrev pub last_or : ℕ → List Cell → ℕ
last_or v [] = v
last_or v (c ∷ cs) = last_or c.value cs

-- What plain text and a plain embed take on: up to the visible length the value of the cell before the index, none at index 0;
-- past it what is in force at the list's end.
abbrev pub inherited : ℕ → ℕ → List Item → ℕ
inherited j i l =
    let cs = cells live j 0 l in
    cond (leb i (length cs)) (last_or 0 (take i cs)) (force live j 0 l)

-- new cells at an index, and all others as they were
abbrev pub put_at : ℕ → List Cell → List Cell → List Cell
put_at i new cs = take i cs ++ new ++ drop i cs

-- the units that a text will have: the next ones
abbrev pub next_units : Sheet → List ℕ → List Glyph
next_units s us = units_of (length s.units) (length us)

-- With attributes, the new cells carry exactly those. Format lays its value on the range, if it has one for the key.
-- Remove takes its cells out. A delta does what reading it does.
abbrev pub shows : ℕ → Call → Sheet → List Cell
shows j (insert_text i us) s = put_at i (paint (inherited j i s.items) (next_units s us)) (cells live j 0 s.items)
shows j (insert_text_with i us a) s = put_at i (paint (lay (a j) 0) (next_units s us)) (cells live j 0 s.items)
shows j (insert_embed i e) s = put_at i (paint (inherited j i s.items) (thing e ∷ [])) (cells live j 0 s.items)
shows j (insert_embed_with i e a) s = put_at i (paint (lay (a j) 0) (thing e ∷ [])) (cells live j 0 s.items)
shows j (format_range i n a) s = let cs = cells live j 0 s.items in take i cs ++ map (lay_cell (a j)) (take n (drop i cs)) ++ drop n (drop i cs)
shows j (remove_range i n) s = let cs = cells live j 0 s.items in take i cs ++ drop n (drop i cs)
shows j (apply_delta ops) s = read j (map spelt (laid_out (length s.units) ops)) (cells live j 0 s.items)
shows j begin_now s = cells live j 0 s.items

-- Format cell by cell: the cell with number p inside the range has g laid on it, every other is as it was (d stands for no cell).
pub record Formatted (i n : ℕ) (g : Cell → Cell) (old new : List Cell) (d : Cell) (p : ℕ) : Type 0 where
  pub left : p < i → get_or new p d ≡ get_or old p d
  pub inside : i ≤ p → p < i + n → get_or new p d ≡ g (get_or old p d)
  pub right : i + n ≤ p → get_or new p d ≡ get_or old p d

-- how many units a call gives and takes
abbrev pub gains : List (Op Body) → ℕ
gains [] = 0
gains (insert (words t) a ∷ ops) = length t + gains ops
gains (insert (object e) a ∷ ops) = 1 + gains ops
gains (delete n ∷ ops) = gains ops
gains (retain n a ∷ ops) = gains ops

abbrev pub losses : List (Op Body) → ℕ
losses [] = 0
losses (insert b a ∷ ops) = losses ops
losses (delete n ∷ ops) = n + losses ops
losses (retain n a ∷ ops) = losses ops

-- The visible length after an accepted call.
abbrev pub length_after : Call → Sheet → ℕ
length_after (insert_text i us) s = visible s.items + length us
length_after (insert_text_with i us a) s = visible s.items + length us
length_after (insert_embed i e) s = visible s.items + 1
length_after (insert_embed_with i e a) s = visible s.items + 1
length_after (format_range i n a) s = visible s.items
length_after (remove_range i n) s = visible s.items - n
length_after (apply_delta ops) s = visible s.items + gains ops - losses ops
length_after begin_now s = visible s.items

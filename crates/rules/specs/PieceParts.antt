-- The words that bench pieces are written in.
use Rattle.std.specs.Prelude.{ℕ, zero, suc, true, false, cond, List, [], ◌∷◌, map}
use Rattle.sets.specs.Sets.{Slot, absent, is, Set, empty, Env, keys, at, as_set}
use Rattle.rules.specs.Sheet.{What, text, mark, Item, dead, new}
use Rattle.rules.specs.Reading.{live, before, Cell, cells, Glyph, unit, thing, Op, insert, delete, retain, read}
use Rattle.rules.specs.Runs.{Run, Chunk, words, object, run_keys, run_count}
use Rattle.rules.specs.Calls.{Sheet, unit_at, Call, format_range, call}
use Rattle.rules.specs.Shown.{length_of, runs_of, joined_of, event_of, item_text, range_text}

-- Attributes, as keys with values; 0 is null.
abbrev pub Attrs : Type 0
Attrs = List (ℕ × ℕ)

abbrev pub pair_for : ℕ → Slot → Attrs → Attrs
pair_for k absent on = on
pair_for k (is v) on = (k, v) ∷ on

abbrev pub pairs : List ℕ → Set → Attrs
pairs [] a = []
pairs (k ∷ ks) a = pair_for k (a k) (pairs ks a)

-- An operation of an event, and a run: a text by its units (`t`), an embed (`x`).
pub data Said : Type 0 where
  t : List ℕ → Attrs → Said
  x : ℕ → Attrs → Said
  r : ℕ → Attrs → Said
  d : ℕ → Said

abbrev pub said_glyphs : List ℕ → List Glyph → Attrs → Said
said_glyphs us [] a = t [] a
said_glyphs us (unit p ∷ gs) a = t (map (unit_at us) (unit p ∷ gs)) a
said_glyphs us (thing e ∷ gs) a = x e a

abbrev pub said_op : List ℕ → Op (List Glyph) → Said
said_op us (insert gs a) = said_glyphs us gs (pairs keys a)
said_op us (delete n) = d n
said_op us (retain n a) = r n (pairs keys a)

abbrev pub said_chunk : List ℕ → Chunk → Attrs → Said
said_chunk us (words gs) a = t (map (unit_at us) gs) a
said_chunk us (object e) a = x e a

-- a run with its keys that have a value
abbrev pub valued : Env → List ℕ → Attrs
valued e [] = []
valued e (k ∷ ks) = (k, e k) ∷ valued e ks

abbrev pub said_run : List ℕ → Run → Said
said_run us q = said_chunk us q.chunk (valued q.force (run_keys q))

abbrev pub value_of : Cell → ℕ
value_of c = c.value

-- the value of a key on the visible unit with an index
abbrev pub value_at : ℕ → List Cell → ℕ
value_at n [] = 0
value_at zero (c ∷ cs) = c.value
value_at (suc n) (c ∷ cs) = value_at n cs

abbrev pub carried : ℕ → List Item → Attrs
carried n l = pairs keys (as_set (λ k. value_at n (cells live k 0 l)))

abbrev pub live_items : List Item → List What
live_items [] = []
live_items (i ∷ l) = let on = live_items l in cond (dead i) on (i.what ∷ on)

-- What a piece says of the sheet that its calls leave.
pub data Says : Type 0 where
  -- the items in order, with number, kind, state and flags
  holds : List Item → Says
  -- the live ones
  shows : List What → Says
  -- the whole sheet
  leaves : Sheet → Says
  long : ℕ → Says
  plain : List Said → Says
  merged : List Said → Says
  tells : List Said → Says
  -- what the visible unit with an index has
  carries : ℕ → Attrs → Says
  -- how many keys each plain run has
  counts : List ℕ → Says
  -- the text of the item with a number, and that of a range
  item : ℕ → List ℕ → Says
  range : ℕ → ℕ → List ℕ → Says
  -- the values of a key, unit by unit, when the event is read over what stood before
  replays : ℕ → List ℕ → Says

abbrev pub answer : Sheet → Says → Says
answer s (holds l) = holds s.items
answer s (shows l) = shows (live_items s.items)
answer s (leaves o) = leaves s
answer s (long n) = long (length_of s)
answer s (plain rs) = plain (map (said_run s.units) (runs_of s))
answer s (merged rs) = merged (map (said_run s.units) (joined_of s))
answer s (tells ops) = tells (map (said_op s.units) (event_of s))
answer s (carries n a) = carries n (carried n s.items)
answer s (counts ns) = counts (map run_count (runs_of s))
answer s (item j us) = item j (item_text j s)
answer s (range i n us) = range i n (range_text i n s)
answer s (replays k vs) = replays k (map value_of (read k (event_of s) (cells before k 0 s.items)))

-- A piece: where it starts, its calls, the refusal number of each (0: accepted), and what is said of the sheet afterwards.
pub data Piece : Type 0 where
  piece : Sheet → List Call → List ℕ → List Says → Piece

abbrev pub after : List Call → Sheet → Sheet
after [] s = s
after (c ∷ cs) s = after cs (call c s).sheet

abbrev pub refusals : List Call → Sheet → List ℕ
refusals [] s = []
refusals (c ∷ cs) s = let o = call c s in o.refusal ∷ refusals cs o.sheet

-- the piece with what its calls really give
abbrev pub played : Piece → Piece
played (piece s cs ns says) = piece s cs (refusals cs s) (map (answer (after cs s)) says)

-- sets of one key and of two
abbrev pub one : ℕ → ℕ → Set
one k v = at k (is v) empty

abbrev pub two : ℕ → ℕ → ℕ → ℕ → Set
two k v j w = at k (is v) (one j w)

-- an item that stood before the transaction
abbrev pub stood : ℕ → What → Item
stood m w = record { num = m; what = w; flags = record { dead = false; added = false; gone = false } }

-- a sheet of one text that was just put
abbrev pub sheet_of : List ℕ → ℕ → Sheet
sheet_of us n = record { items = new 0 (text 0 n) ∷ []; next = 1; units = us }

-- a sheet handed in
abbrev pub handed : List Item → ℕ → List ℕ → Sheet
handed l m us = record { items = l; next = m; units = us }

-- n marks, numbered downwards from n - 1
abbrev pub many_marks : ℕ → List Item
many_marks zero = []
many_marks (suc n) = stood n (mark 0 0) ∷ many_marks n

-- Letters (e is the letter d), and the sheets that pieces start from.
abbrev pub a : ℕ
a = 0x61

abbrev pub b : ℕ
b = 0x62

abbrev pub c : ℕ
c = 0x63

abbrev pub e : ℕ
e = 0x64

abbrev pub X : ℕ
X = 0x58

abbrev pub bold : Attrs
bold = (0, 1) ∷ []

abbrev pub ab : Sheet
ab = sheet_of (a ∷ b ∷ []) 2

abbrev pub abc : Sheet
abc = sheet_of (a ∷ b ∷ c ∷ []) 3

-- a letter and a surrogate pair
abbrev pub face : Sheet
face = sheet_of (a ∷ 0xD83D ∷ 0xDE00 ∷ []) 3

abbrev pub b2 : Call
b2 = format_range 1 1 (one 0 1)

-- 0=1, a, 0=null, 0=1, bc, 0=null: two marks that Tidy would delete
abbrev pub idle : Sheet
idle = after (format_range 0 3 (one 0 1) ∷ format_range 1 0 (one 0 0) ∷ []) abc

-- an item that was deleted before the transaction
abbrev pub buried : ℕ → What → Item
buried m w = record { num = m; what = w; flags = record { dead = true; added = false; gone = false } }

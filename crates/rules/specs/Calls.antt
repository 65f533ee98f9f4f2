-- The calls: from a sheet to a refusal number (0: accepted) and a sheet. Refusals that need memory (5 to 9, 16) are not here.
use Rattle.std.specs.Prelude.{ℕ, ◌+◌, ◌-◌, min, ◌≡◌, Bool, true, cond, not, ◌&&◌, ◌||◌, List, [], ◌∷◌, ◌++◌, map, eqb, leb, ltb, length, get_or, take, drop}
use Rattle.units.specs.Surrogates.{paired, splits_pair}
use Rattle.sets.specs.Sets.{Set}
use Rattle.rules.specs.Sheet.{What, text, embed, mark, Item, begin}
use Rattle.rules.specs.Reading.{Glyph, unit, thing, seen_glyphs, Op, insert, delete, retain}
use Rattle.rules.specs.Places.{At, whole, Move}
use Rattle.rules.specs.Edits.{by_index, plain_text, plain_embed, insert_with, format, remove}
use Rattle.rules.specs.Delta.{Given, new_text, new_embed, delta}

-- A sheet: its items in order, the next unused number, its units in use.
pub record Sheet : Type 0 where
  pub items : List Item
  pub next : ℕ
  pub units : List ℕ

abbrev pub fresh_sheet : Sheet
fresh_sheet = record { items = []; next = 0; units = [] }

pub record Outcome : Type 0 where
  pub refusal : ℕ
  pub sheet : Sheet

-- A refused call changes nothing.
abbrev pub refuse : ℕ → Sheet → Outcome
refuse n s = record { refusal = n; sheet = s }

-- the visible units; an embed stands for one that is no surrogate
abbrev pub unit_at : List ℕ → Glyph → ℕ
unit_at us (unit p) = get_or us p 0
unit_at us (thing e) = 0

abbrev pub visible_units : List ℕ → List Item → List ℕ
visible_units us l = map (unit_at us) (seen_glyphs l)

-- Refusal PAIR (2) for a range: its index or its end stands between the halves of a pair. At or past the end of the
-- visible text there is no unit behind, so nothing is split there.
abbrev pub bad_range : List ℕ → ℕ → ℕ → Bool
bad_range us i n = splits_pair us i || splits_pair us (i + n)

-- Refusal SHORT (1): fewer units stand right of the index than are to be removed. Past the end none do.
abbrev pub too_long : List ℕ → ℕ → ℕ → Bool
too_long us i n = ltb (length us - i) n

-- Refusal ROOM (4): the outcome would have more than 2,048 items or more than 16,384 units, deleted ones counted.
abbrev pub roomy : At → List ℕ → Sheet → Outcome
roomy p us s =
    let done : Outcome = record { refusal = 0; sheet = record { items = whole p; next = p.next; units = us } } in
    cond (leb (length (whole p)) 2048 && leb (length us) 16384) done (refuse 4 s)

-- what an Inserted holds, as it is handed in
pub data Body : Type 0 where
  words : List ℕ → Body
  object : ℕ → Body

pub data Call : Type 0 where
  insert_text : ℕ → List ℕ → Call
  insert_text_with : ℕ → List ℕ → Set → Call
  insert_embed : ℕ → ℕ → Call
  insert_embed_with : ℕ → ℕ → Set → Call
  format_range : ℕ → ℕ → Set → Call
  remove_range : ℕ → ℕ → Call
  apply_delta : List (Op Body) → Call
  begin_now : Call

-- Text put at an index by a move; its units are appended. Empty text is taken at any index and does nothing;
-- else UNITS (3), then PAIR (2), then ROOM (4).
abbrev pub put_text : ℕ → List ℕ → (What → Move) → Sheet → Outcome
put_text i [] f s = record { refusal = 0; sheet = s }
put_text i (u ∷ us) f s =
    let new = u ∷ us in
    let go = roomy (by_index i (f (text (length s.units) (length new))) s.items s.next) (s.units ++ new) s in
    cond (not (paired new)) (refuse 3 s) (cond (splits_pair (visible_units s.units s.items) i) (refuse 2 s) go)

abbrev pub put_embed : ℕ → ℕ → (What → Move) → Sheet → Outcome
put_embed i e f s =
    let go = roomy (by_index i (f (embed e)) s.items s.next) s.units s in
    cond (splits_pair (visible_units s.units s.items) i) (refuse 2 s) go

-- Refusals of a delta: the first operation that gets one decides, by 3, 2, 1. The cursor counts in the old visible text: what is
-- inserted lies left of the place, so what stands right of it is old. ROOM comes after all of them.
abbrev pub check : List ℕ → ℕ → List (Op Body) → ℕ
check us c [] = 0
check us c (insert (words t) a ∷ ops) = let on = check us c ops in cond (paired t) on 3
check us c (insert (object e) a ∷ ops) = check us c ops
check us c (delete n ∷ ops) = let on = check us (min (length us) (c + n)) ops in cond (splits_pair us (c + n)) 2 (cond (too_long us c n) 1 on)
check us c (retain n a ∷ ops) = let on = check us (min (length us) (c + n)) ops in cond (splits_pair us (c + n)) 2 on

-- where each Inserted's units will stand
abbrev pub laid_out : ℕ → List (Op Body) → List (Op Given)
laid_out m [] = []
laid_out m (insert (words t) a ∷ ops) = insert (new_text m (length t)) a ∷ laid_out (m + length t) ops
laid_out m (insert (object e) a ∷ ops) = insert (new_embed e) a ∷ laid_out m ops
laid_out m (delete n ∷ ops) = delete n ∷ laid_out m ops
laid_out m (retain n a ∷ ops) = retain n a ∷ laid_out m ops

abbrev pub new_units : List (Op Body) → List ℕ
new_units [] = []
new_units (insert (words t) a ∷ ops) = t ++ new_units ops
new_units (insert (object e) a ∷ ops) = new_units ops
new_units (delete n ∷ ops) = new_units ops
new_units (retain n a ∷ ops) = new_units ops

abbrev pub call : Call → Sheet → Outcome
call (insert_text i us) s = put_text i us plain_text s
call (insert_text_with i us a) s = put_text i us (λ w. insert_with w a) s
call (insert_embed i e) s = put_embed i e plain_embed s
call (insert_embed_with i e a) s = put_embed i e (λ w. insert_with w a) s
call (format_range i n a) s =
    let us = visible_units s.units s.items in
    let go = roomy (by_index i (format a n) s.items s.next) s.units s in
    cond (bad_range us i n) (refuse 2 s) go
call (remove_range i n) s =
    let us = visible_units s.units s.items in
    let go = roomy (remove i n s.items s.next) s.units s in
    cond (bad_range us i n) (refuse 2 s) (cond (too_long us i n) (refuse 1 s) go)
call (apply_delta ops) s =
    let r = check (visible_units s.units s.items) 0 ops in
    let go = roomy (delta (laid_out (length s.units) ops) s.items s.next) (s.units ++ new_units ops) s in
    cond (eqb r 0) go (refuse r s)
call begin_now s = record { refusal = 0; sheet = record { items = begin s.items; next = s.next; units = s.units } }

-- No text holds half a pair.
abbrev pub Paired : List ℕ → ℕ → ℕ → Type 0
Paired us s n = paired (take n (drop s us)) ≡ true

abbrev pub PairedWhat : List ℕ → What → Type 0
PairedWhat us (text s n) = Paired us s n
PairedWhat us (embed e) = Unit {0}
PairedWhat us (mark k v) = Unit {0}

abbrev pub AllPaired : List ℕ → List Item → Type 0
AllPaired us [] = Unit {0}
AllPaired us (i ∷ l) = PairedWhat us i.what × AllPaired us l

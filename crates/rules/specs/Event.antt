-- The event: `get_delta`, over two readings of the same list. `was` sees what stood before, `now` what stands now.
use Rattle.std.specs.Prelude.{ℕ, suc, ◌+◌, Bool, true, false, cond, not, ◌&&◌, List, [], ◌∷◌, ◌++◌, eqb, replicate}
use Rattle.sets.specs.Sets.{Slot, absent, is, Set, empty, Env, none, keys, at, bare, non_null, as_set}
use Rattle.rules.specs.Sheet.{What, text, embed, mark, Item, width, is_mark}
use Rattle.rules.specs.Reading.{Seen, pass_key, Glyph, unit, thing, glyphs, Op, insert, delete, retain}

-- the run that grows: get_delta's action with what it has gathered
pub data Run : Type 0 where
  idle : Run
  inserting : List Glyph → Run
  deleting : ℕ → Run
  retaining : ℕ → Run

-- The pending attributes (`attrs`), those in force now (`current_attrs`) and before (`old_attrs`).
pub record Asm : Type 0 where
  pub run : Run
  pub attrs : Set
  pub cur : Env
  pub old : Env

-- `add_op`: the operation of the run, if there is one
abbrev pub add_op : Run → Set → Env → List (Op (List Glyph))
add_op idle a c = []
add_op (inserting gs) a c = insert gs (as_set c) ∷ []
add_op (deleting n) a c = delete n ∷ []
add_op (retaining n) a c = retain n a ∷ []

-- What an item does to the run: is it told now, what is told besides, and which run goes on.
pub record Step : Type 0 where
  pub ends : Bool
  pub tells : List (Op (List Glyph))
  pub then : Run

abbrev pub goes : Run → Step
goes r = record { ends = false; tells = []; then = r }

abbrev pub starts : Run → Step
starts r = record { ends = true; tells = []; then = r }

-- A run goes on with the next item of its own sort; another sort ends it and starts its own.
abbrev pub grow_insert : List Glyph → Run → Step
grow_insert gs idle = starts (inserting gs)
grow_insert gs (inserting hs) = goes (inserting (hs ++ gs))
grow_insert gs (deleting n) = starts (inserting gs)
grow_insert gs (retaining n) = starts (inserting gs)

abbrev pub grow_delete : ℕ → Run → Step
grow_delete w idle = starts (deleting w)
grow_delete w (inserting hs) = starts (deleting w)
grow_delete w (deleting n) = goes (deleting (n + w))
grow_delete w (retaining n) = starts (deleting w)

abbrev pub grow_retain : ℕ → Run → Step
grow_retain w idle = starts (retaining w)
grow_retain w (inserting hs) = starts (retaining w)
grow_retain w (deleting n) = starts (retaining w)
grow_retain w (retaining n) = goes (retaining (n + w))

-- What a text does, by whether it stood before and stands now: neither (so added and deleted since, or deleted
-- long ago) does nothing.
abbrev pub text_step : Bool → Bool → What → Run → Step
text_step false false w r = goes r
text_step false true w r = grow_insert (glyphs w) r
text_step true false w r = grow_delete (width w) r
text_step true true w r = grow_retain (width w) r

-- An embed that is new is an operation by itself; else it counts as one unit.
abbrev pub embed_step : Bool → Bool → What → Run → Env → Step
embed_step false false w r c = goes r
embed_step false true w r c = record { ends = true; tells = insert (glyphs w) (as_set c) ∷ []; then = idle }
embed_step true false w r c = grow_delete (width w) r
embed_step true true w r c = grow_retain (width w) r

-- A mark k = v: what becomes of the pending attribute of k, from the old value, the current one, and what is pending.
pub data Change : Type 0 where
  stays : Change
  becomes : Slot → Change

abbrev pub change : Bool → Bool → ℕ → ℕ → Slot → ℕ → Change
change false false o c p v = stays
change false true o c p v = cond (eqb c v && not (eqb v 0)) stays (becomes (cond (eqb o v) absent (is v)))
change true false o c p v = cond (eqb c v) stays (becomes (is c))
change true true o c absent v = stays
change true true o c (is w) v = cond (eqb w v) stays (becomes (non_null v))

-- A changed pending attribute ends a Retain; any mark that stands now ends an Insert; no mark ends a Delete.
abbrev pub breaks : Change → Bool → Run → Bool
breaks ch now idle = false
breaks ch now (inserting gs) = now
breaks ch now (deleting n) = false
breaks stays now (retaining n) = false
breaks (becomes s) now (retaining n) = true

abbrev pub mark_step : Change → Bool → Run → Step
mark_step ch now r = cond (breaks ch now r) (starts idle) (goes r)

abbrev pub change_by : Bool → Bool → ℕ → ℕ → Asm → Change
change_by was now k v t = change was now (t.old k) (t.cur k) (t.attrs k) v

abbrev pub step : Bool → Bool → What → Asm → Step
step was now (text s n) t = text_step was now (text s n) t.run
step was now (embed e) t = embed_step was now (embed e) t.run t.cur
step was now (mark k v) t = mark_step (change_by was now k v t) now t.run

abbrev pub changed : Change → ℕ → Set → Set
changed stays k a = a
changed (becomes s) k a = at k s a

abbrev pub pending : Bool → Bool → What → Asm → Set
pending was now (text s n) t = t.attrs
pending was now (embed e) t = t.attrs
pending was now (mark k v) t = changed (change_by was now k v t) k t.attrs

abbrev pub told : Step → Asm → List (Op (List Glyph))
told s t = cond s.ends (add_op t.run t.attrs t.cur) [] ++ s.tells

abbrev pub passed : Seen → Seen → Item → Asm → Asm
passed was now i t =
    record {
      run = (step (was i.flags) (now i.flags) i.what t).then;
      attrs = pending (was i.flags) (now i.flags) i.what t;
      cur = λ k. pass_key now k i (t.cur k);
      old = λ k. pass_key was k i (t.old k);
    }

abbrev pub gather : Seen → Seen → Asm → List Item → List (Op (List Glyph))
gather was now t [] = add_op t.run t.attrs t.cur
gather was now t (i ∷ l) = told (step (was i.flags) (now i.flags) i.what t) t ++ gather was now (passed was now i t) l

-- `finish`: Retains at the end that set nothing are left out.
abbrev pub is_plain : Op (List Glyph) → Bool
is_plain (insert gs a) = false
is_plain (delete n) = false
is_plain (retain n a) = bare keys a

abbrev pub ahead : Op (List Glyph) → List (Op (List Glyph)) → List (Op (List Glyph))
ahead op [] = cond (is_plain op) [] (op ∷ [])
ahead op (o ∷ ops) = op ∷ o ∷ ops

abbrev pub finish : List (Op (List Glyph)) → List (Op (List Glyph))
finish [] = []
finish (op ∷ ops) = ahead op (finish ops)

abbrev pub fresh : Asm
fresh = record { run = idle; attrs = empty; cur = none; old = none }

abbrev pub event : Seen → Seen → List Item → List (Op (List Glyph))
event was now l = finish (gather was now fresh l)

-- The event unit by unit: each unit of the old reading is kept or dropped, and new ones are given.
pub data Act : Type 0 where
  keep : Act
  drop : Act
  give : Glyph → Act

abbrev pub giving : List Glyph → List Act
giving [] = []
giving (g ∷ gs) = give g ∷ giving gs

abbrev pub script : List (Op (List Glyph)) → List Act
script [] = []
script (insert gs a ∷ ops) = giving gs ++ script ops
script (delete n ∷ ops) = replicate n drop ++ script ops
script (retain n a ∷ ops) = replicate n keep ++ script ops

-- what the items say
abbrev pub fate : Bool → Bool → What → List Act
fate false false w = []
fate false true w = giving (glyphs w)
fate true false w = replicate (width w) drop
fate true true w = replicate (width w) keep

abbrev pub fates : Seen → Seen → List Item → List Act
fates was now [] = []
fates was now (i ∷ l) = fate (was i.flags) (now i.flags) i.what ++ fates was now l

-- the number of text and embed items
abbrev pub carriers : List Item → ℕ
carriers [] = 0
carriers (i ∷ l) = cond (is_mark i.what) 0 1 + carriers l

-- how many units the event's texts hold
abbrev pub in_units : List Glyph → ℕ
in_units [] = 0
in_units (unit p ∷ gs) = suc (in_units gs)
in_units (thing e ∷ gs) = in_units gs

abbrev pub told_units : List (Op (List Glyph)) → ℕ
told_units [] = 0
told_units (insert gs a ∷ ops) = in_units gs + told_units ops
told_units (delete n ∷ ops) = told_units ops
told_units (retain n a ∷ ops) = told_units ops

-- What `event` writes, read back by a caller, and what a caller sees of a sheet: units, not places.
use Rattle.std.specs.Prelude.{ℕ, zero, suc, List, [], ◌∷◌, ◌++◌, map, length, get_or, take, drop, Option, None, Some}
use Rattle.attrs.specs.declared.Attrs.{Attrs}
use Rattle.attrs.specs.Packed.{says}
use Rattle.rules.specs.Reading.{live, before, Glyph, unit, thing, Cell, cells, Op, insert, delete, retain}
use Rattle.layout.specs.Memory.{list_of}
use Rattle.ops.specs.declared.delta.Inserted.{Inserted}
use Rattle.ops.specs.declared.delta.Inserted.TheVariants.{Text, Embed}
use Rattle.ops.specs.declared.delta.Op.{Op as Kind}
use Rattle.ops.specs.declared.delta.Op.TheVariants.{Insert, Delete, Retain}
use Rattle.ops.specs.declared.delta.DeltaOp.{DeltaOp}
use Rattle.encoding.specs.Words.{found_at}
use Rattle.events.specs.Told.{Ops}
use Rattle.events.specs.Given.{EventAnswer, given, at_front}
use Rattle.demands.specs.Steps.{State}

-- ---- what is written
-- What `event` answers, and the two lent buffers as it leaves them.
pub record Wrote : Type 0 where
  pub answer : EventAnswer
  pub words : List ℕ
  pub units : List ℕ

-- Just what the promise of `event` says, for buffers that hold w and o.
abbrev pub wrote : State → List ℕ → List ℕ → Wrote
wrote s w o =
    record {
      answer = (given before live s.head s.words s.units (length w) (length o)).answer;
      words = at_front (given before live s.head s.words s.units (length w) (length o)).words w;
      units = at_front (given before live s.head s.words s.units (length w) (length o)).units o;
    }

-- ---- read back
-- The units of a text part, or the embed.
abbrev pub part_in : List ℕ → Inserted → List Glyph
part_in o (Text s n) = map unit (take n (drop s o))
part_in o (Embed e) = thing e ∷ []

abbrev pub op_in : List ℕ → Kind → Attrs → Op (List Glyph)
op_in o (Insert i) a = insert (part_in o i) (says a)
op_in o (Delete n) a = delete n
op_in o (Retain n) a = retain n (says a)

-- What `op_at` finds, as an operation of the rules; nothing where it finds none.
abbrev pub ops_found : List ℕ → Option DeltaOp → Ops
ops_found o None = []
ops_found o (Some d) = op_in o d.op d.attrs ∷ []

-- The n operations from number i on.
unfoldable pub read_back : ℕ → ℕ → List ℕ → List ℕ → Ops
read_back i zero w o = []
read_back i (suc n) w o = ops_found o (found_at w i) ++ read_back (suc i) n w o

-- ---- what a caller sees
-- A unit itself, in the stead of its place.
abbrev pub spelled : List ℕ → Glyph → Glyph
spelled u (unit p) = unit (get_or u p 0)
spelled u (thing e) = thing e

abbrev pub spelled_cell : List ℕ → Cell → Cell
spelled_cell u c = record { glyph = spelled u c.glyph; value = c.value }

abbrev pub spelled_op : List ℕ → Op (List Glyph) → Op (List Glyph)
spelled_op u (insert gs a) = insert (map (spelled u) gs) a
spelled_op u (delete n) = delete n
spelled_op u (retain n a) = retain n a

-- The visible units and embeds of a sheet, each with its value of the key j.
abbrev pub page : ℕ → State → List Cell
page j s = map (spelled_cell s.units) (cells live j 0 (list_of s.head s.words))

-- The event as it is written: operations in numbers, and the units of their texts one after the other.
use Rattle.std.specs.Prelude.{ℕ, ◌+◌, ◌*◌, Bool, false, cond, List, [], ◌∷◌, ◌++◌, ltb, get_or}
use Rattle.std.proofs.lemmas.List.Edits.{sets}
use Rattle.attrs.specs.declared.Attrs.{Attrs}
use Rattle.sets.specs.Sets.{empty, keys, bare}
use Rattle.attrs.specs.Packed.{says, packed}
use Rattle.rules.specs.Reading.{Glyph, unit, thing, Op, insert, delete, retain}
use Rattle.rules.specs.Event.{in_units}
use Rattle.ops.specs.declared.delta.Inserted.{Inserted}
use Rattle.ops.specs.declared.delta.Inserted.TheVariants.{Text, Embed}
use Rattle.ops.specs.declared.delta.Op.{Op as Kind}
use Rattle.ops.specs.declared.delta.Op.TheVariants.{Insert, Delete, Retain}
use Rattle.ops.specs.declared.delta.DeltaOp.{DeltaOp}
use Rattle.encoding.specs.Words.{words_of, all_words}
use Rattle.events.specs.declared.telling.Count.{Count}

abbrev pub Ops : Type 0
Ops = List (Op (List Glyph))

-- ---- an operation of the event

abbrev pub units_in : Op (List Glyph) → ℕ
units_in (insert gs a) = in_units gs
units_in (delete n) = 0
units_in (retain n a) = 0

-- What is inserted: an embed, or text that lies in the answer's units from p on.
abbrev pub part_of : ℕ → List Glyph → Inserted
part_of p [] = Text p 0
part_of p (unit q ∷ gs) = Text p (in_units (unit q ∷ gs))
part_of p (thing e ∷ gs) = Embed e

abbrev pub delta_of : ℕ → Op (List Glyph) → DeltaOp
delta_of p (insert gs a) = record { op = Insert (part_of p gs); attrs = packed a }
delta_of p (delete n) = record { op = Delete n; attrs = packed empty }
delta_of p (retain n a) = record { op = Retain n; attrs = packed a }

-- Each text begins where the one before it ends.
unfoldable pub delta_ops : ℕ → Ops → List DeltaOp
delta_ops p [] = []
delta_ops p (op ∷ ops) = delta_of p op ∷ delta_ops (p + units_in op) ops

unfoldable pub encoded : Ops → List ℕ
encoded ops = all_words (delta_ops 0 ops)

-- The units of glyphs, and of all texts that operations insert.
abbrev pub units_for : List ℕ → List Glyph → List ℕ
units_for u [] = []
units_for u (unit p ∷ gs) = get_or u p 0 ∷ units_for u gs
units_for u (thing e ∷ gs) = units_for u gs

unfoldable pub texts : List ℕ → Ops → List ℕ
texts u [] = []
texts u (insert gs a ∷ ops) = units_for u gs ++ texts u ops
texts u (delete n ∷ ops) = texts u ops
texts u (retain n a ∷ ops) = texts u ops

-- ---- telling

-- How many operations were told, how many are left without trailing plain Retains, and the numbers written so far.
pub record Telling : Type 0 where
  pub told : ℕ
  pub kept : ℕ
  pub words : List ℕ

abbrev pub plain_kind : Kind → Attrs → Bool
plain_kind (Insert i) a = false
plain_kind (Delete n) a = false
plain_kind (Retain n) a = bare keys (says a)

abbrev pub kept_by : ℕ → ℕ → DeltaOp → ℕ
kept_by told kept d = cond (plain_kind d.op d.attrs) kept (told + 1)

-- Only the first `limit` operations are written.
abbrev pub wrote_by : ℕ → ℕ → List ℕ → DeltaOp → List ℕ
wrote_by limit told w d = cond (ltb told limit) (sets w (told * 8) (words_of d)) w

unfoldable pub tell_all : ℕ → Telling → List DeltaOp → Telling
tell_all limit s [] = s
tell_all limit s (d ∷ ds) =
    tell_all limit (record { told = s.told + 1; kept = kept_by s.told s.kept d; words = wrote_by limit s.told s.words d }) ds

abbrev pub telling : Count → List ℕ → Telling
telling n w = record { told = n.told; kept = n.kept; words = w }

abbrev pub begun : List ℕ → Telling
begun w = record { told = 0; kept = 0; words = w }

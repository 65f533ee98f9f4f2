-- The operations of a delta's line.
use Rattle.std.specs.Prelude.{◌≡◌, Bool, true, false, cond, List, [], ℕ, ◌+◌, ◌-◌, ◌≤◌, eqb, length, Option, Some, None}
use Rattle.std.specs.Option.{option_or}
use Rattle.ops.specs.Ops.{empty_delta, Pushed, pushed}
use Rattle.ops.specs.declared.delta.Inserted.TheVariants.{Text, Embed}
use Rattle.ops.specs.declared.delta.Op.{Op}
use Rattle.ops.specs.declared.delta.Op.TheVariants.{Insert, Delete, Retain}
use Rattle.ops.specs.declared.delta.Delta.{Delta}
use Rattle.words.specs.Words.{word_at}
use Rattle.lines.specs.Fields.{read_at, start_at, at_op, turns, gather, Gathered}
use Rattle.lines.specs.Calls.{number_at, name_of}
use Rattle.words.specs.declared.words.Word.{Word as Found}
use Rattle.lines.specs.declared.fields.Field.{Field}
use Rattle.lines.specs.declared.fields.Field.TheVariants.{Line, Op as Semicolon, Word}
use Rattle.lines.specs.declared.fields.Fields.{Fields}
use Rattle.lines.specs.declared.fields.End.{End}
use Rattle.lines.specs.declared.fields.End.TheVariants.{Line as AtLine, Op as AtOp, Wrong}
use Rattle.lines.specs.declared.deltas.Counted.{Counted}
use Rattle.lines.specs.declared.deltas.Counted.TheVariants.{Embed as Embeds, Retain as Retains, Delete as Deletes}
use Rattle.lines.specs.declared.deltas.Sort.{Sort}
use Rattle.lines.specs.declared.deltas.Sort.TheVariants.{Texts, Numbers}
use Rattle.lines.specs.declared.deltas.AskedDelta.{AskedDelta}

-- What is read so far, and the units as they are then.
pub record Taken : Type 0 where
  pub asked : AskedDelta
  pub units : List ℕ

abbrev pub start_ops : ℕ → AskedDelta
start_ops at = record { delta = empty_delta; at = at; count = 0; refusal = None; end = AtOp }

abbrev pub stopped_ops : AskedDelta → ℕ → End → AskedDelta
stopped_ops d at end = record { delta = d.delta; at = at; count = d.count; refusal = d.refusal; end = end }

-- ---- one operation more

-- A delta that could not take one more has 257 operations from then on: more than any call takes.
abbrev pub longer_of : Pushed → Delta
longer_of p = cond (eqb p.refusal 0) p.delta (record { count = 257; ops = p.delta.ops })

abbrev pub with_op : AskedDelta → Op → Fields → ℕ → AskedDelta
with_op d op f count =
    record {
      delta = longer_of (pushed d.delta (record { op = op; attrs = f.attrs }));
      at = f.at;
      count = count;
      refusal = option_or f.refusal d.refusal;
      end = f.end;
    }

-- Text: its units go behind those of the operations before it.
abbrev pub with_text : AskedDelta → Gathered → Taken
with_text d g =
    record {
      asked = with_op d (Insert (Text d.count (g.fields.count - d.count))) g.fields g.fields.count;
      units = g.units;
    }

abbrev pub text_op : List ℕ → AskedDelta → ℕ → List ℕ → Taken
text_op s d from units = with_text d (gather (length s + 1) s true (start_at from d.count) units)

-- No attributes behind a deletion.
abbrev pub op_marks : Counted → Bool
op_marks Embeds = true
op_marks Retains = true
op_marks Deletes = false

abbrev pub op_of : Counted → ℕ → Op
op_of Embeds n = Insert (Embed n)
op_of Retains n = Retain n
op_of Deletes n = Delete n

abbrev pub numbered_with : List ℕ → AskedDelta → Counted → Option ℕ → ℕ → AskedDelta
numbered_with s d c (Some n) next = with_op d (op_of c n) (gather (length s + 1) s (op_marks c) (start_at next 0) []).fields d.count
numbered_with s d c None next = stopped_ops d next Wrong

abbrev pub numbered_op : List ℕ → AskedDelta → ℕ → Counted → AskedDelta
numbered_op s d from c = let n = number_at s from in numbered_with s d c n.number n.next

pub record NumberedIs (s : List ℕ) (d : AskedDelta) (from : ℕ) (c : Counted) (r : AskedDelta) : Type 0 where
  pub is : r ≡ numbered_op s d from c
  pub within : r.at ≤ length s
  pub count : r.count ≡ d.count

-- i has text; x, an embed, r, which retains, and d, which deletes, have a number.
unfoldable pub sort_of : ℕ → Option Sort
sort_of c =
    cond (eqb c 105) (Some Texts)
    (cond (eqb c 120) (Some (Numbers Embeds))
    (cond (eqb c 114) (Some (Numbers Retains))
    (cond (eqb c 100) (Some (Numbers Deletes)) None)))

abbrev pub op_by : Option Sort → List ℕ → AskedDelta → ℕ → List ℕ → Taken
op_by (Some Texts) s d from units = text_op s d from units
op_by (Some (Numbers c)) s d from units = record { asked = numbered_op s d from c; units = units }
op_by None s d from units = record { asked = stopped_ops d from Wrong; units = units }

abbrev pub op_in : List ℕ → AskedDelta → Found → List ℕ → Taken
op_in s d w units = op_by (sort_of (name_of s w)) s d w.end units

-- ---- all operations

-- Behind a `;` there is one more.
abbrev pub goes_on : Taken → Bool
goes_on t = at_op t.asked.end

abbrev pub next_op : List ℕ → Taken → Taken
next_op s t = op_in s t.asked (word_at s t.asked.at) t.units

abbrev pub all_ops : ℕ → List ℕ → AskedDelta → List ℕ → Taken
all_ops n s d units = turns n goes_on (next_op s) (record { asked = d; units = units })

-- A letter alone is a delta without operations.
abbrev pub ops_by : Field → List ℕ → ℕ → List ℕ → Taken
ops_by Line s from units = record { asked = stopped_ops (start_ops from) from AtLine; units = units }
ops_by Semicolon s from units = record { asked = stopped_ops (start_ops from) from Wrong; units = units }
ops_by (Word p) s from units = all_ops (length s + 1) s (start_ops from) units

-- The operations stand behind the first word of the line.
abbrev pub delta_in : List ℕ → ℕ → List ℕ → Taken
delta_in s from units = ops_by (read_at s from).field s from units

-- What was read, how far, and that its units lie in the lent ones.
pub record ReadTo (s before after : List ℕ) (r : AskedDelta) (t : Taken) : Type 0 where
  pub is : record { asked = r; units = after } ≡ t
  pub within : r.at ≤ length s
  pub high : r.count ≤ length before
  pub long : length after ≡ length before

-- The public calls that edit, with the arguments that they are handed, and the step that each is.
use Rattle.std.specs.Prelude.{ℕ, ◌<◌, List, [], ◌∷◌, length, get_or, take}
use Rattle.attrs.specs.declared.Attrs.{Attrs}
use Rattle.attrs.specs.Packed.{says}
use Rattle.rules.specs.Calls.{insert_text, insert_text_with, insert_embed, insert_embed_with, format_range, remove_range}
use Rattle.ops.specs.declared.delta.Inserted.{Inserted}
use Rattle.ops.specs.declared.delta.Inserted.TheVariants.{Text, Embed}
use Rattle.ops.specs.declared.delta.Op.{Op}
use Rattle.ops.specs.declared.delta.Op.TheVariants.{Insert, Delete, Retain}
use Rattle.ops.specs.declared.delta.DeltaOp.{DeltaOp}
use Rattle.ops.specs.declared.delta.Delta.{Delta}
use Rattle.ops.specs.Ops.{ops_of}
use Rattle.deltas.specs.Checks.{many_of}
use Rattle.deltas.specs.Call.{short_scratch}
use Rattle.demands.specs.Steps.{Step, does, delta_step}

-- A delta comes with how much scratch is lent, of words and of units.
pub data Request : Type 0 where
  insert : ℕ → List ℕ → Request
  insert_with_attributes : ℕ → List ℕ → Attrs → Request
  embed : ℕ → ℕ → Request
  embed_with_attributes : ℕ → ℕ → Attrs → Request
  format : ℕ → ℕ → Attrs → Request
  remove : ℕ → ℕ → Request
  delta : ℕ → ℕ → List ℕ → Delta → Request

-- What each promises to carry out.
abbrev pub step_of : Request → Step
step_of (insert i us) = does (insert_text i us)
step_of (insert_with_attributes i us a) = does (insert_text_with i us (says a))
step_of (embed i e) = does (insert_embed i e)
step_of (embed_with_attributes i e a) = does (insert_embed_with i e (says a))
step_of (format i n a) = does (format_range i n (says a))
step_of (remove i n) = does (remove_range i n)
step_of (delta sm su us d) = delta_step (many_of (length us) d) (short_scratch sm su) (ops_of us d)

-- Arguments of their types: the values of a set are bytes, an embed's number has 32 bits.
abbrev pub Bytes : Attrs → Type 0
Bytes a = (k : ℕ) → get_or a.values k 0 < 256

abbrev pub TypedPart : Inserted → Type 0
TypedPart (Text s n) = Unit {0}
TypedPart (Embed e) = e < 4294967296

abbrev pub TypedOp : Op → Type 0
TypedOp (Insert i) = TypedPart i
TypedOp (Delete n) = Unit {0}
TypedOp (Retain n) = Unit {0}

abbrev pub TypedOps : List DeltaOp → Type 0
TypedOps [] = Unit {0}
TypedOps (d ∷ ds) = TypedOp d.op × Bytes d.attrs × TypedOps ds

abbrev pub Typed : Request → Type 0
Typed (insert i us) = Unit {0}
Typed (insert_with_attributes i us a) = Bytes a
Typed (embed i e) = e < 4294967296
Typed (embed_with_attributes i e a) = (e < 4294967296) × Bytes a
Typed (format i n a) = Bytes a
Typed (remove i n) = Unit {0}
Typed (delta sm su us d) = TypedOps (take d.count d.ops)

abbrev pub AllTyped : List Request → Type 0
AllTyped [] = Unit {0}
AllTyped (r ∷ rs) = Typed r × AllTyped rs

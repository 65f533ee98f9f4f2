-- The operations of a delta as they are carried out: where the units of each text will stand, and the rule that each follows.
use Rattle.std.specs.Prelude.{ℕ, ◌+◌, List, [], ◌∷◌, take}
use Rattle.sets.specs.Sets.{Set}
use Rattle.attrs.specs.Packed.{says}
use Rattle.rules.specs.Reading as rules
use Rattle.rules.specs.Places.{Move}
use Rattle.rules.specs.Delta.{Given, new_text, new_embed, move}
use Rattle.ops.specs.declared.delta.Inserted.{Inserted}
use Rattle.ops.specs.declared.delta.Inserted.TheVariants.{Text, Embed}
use Rattle.ops.specs.declared.delta.Op.{Op}
use Rattle.ops.specs.declared.delta.Op.TheVariants.{Insert, Delete, Retain}
use Rattle.ops.specs.declared.delta.DeltaOp.{DeltaOp}
use Rattle.ops.specs.declared.delta.Delta.{Delta}

-- What an Inserted holds, the units of its text laid behind m others; and how many units that is.
abbrev pub given_at : ℕ → Inserted → Given
given_at m (Text s n) = new_text m n
given_at m (Embed e) = new_embed e

abbrev pub held_by : Inserted → ℕ
held_by (Text s n) = n
held_by (Embed e) = 0

abbrev pub brings : Op → ℕ
brings (Insert i) = held_by i
brings (Delete n) = 0
brings (Retain n) = 0

abbrev pub laid_for : ℕ → Set → Op → rules.Op Given
laid_for m a (Insert i) = rules.insert (given_at m i) a
laid_for m a (Delete n) = rules.delete n
laid_for m a (Retain n) = rules.retain n a

-- The rule of one operation.
unfoldable pub rule_of : ℕ → Set → Op → Move
rule_of m a o = move (laid_for m a o)

-- All of them, each text's units behind those of the ones before.
unfoldable pub laid : ℕ → List DeltaOp → List (rules.Op Given)
laid m [] = []
laid m (d ∷ ds) = laid_for m (says d.attrs) d.op ∷ laid (m + brings d.op) ds

unfoldable pub bringing : List DeltaOp → ℕ
bringing [] = 0
bringing (d ∷ ds) = brings d.op + bringing ds

-- The operations that count.
abbrev pub given : Delta → List DeltaOp
given d = take d.count d.ops

-- What is wrong with a delta before any rule is asked.
use Rattle.std.specs.Prelude.{ℕ, ◌+◌, Bool, false, ◌||◌, List, [], ◌∷◌, ltb}
use Rattle.ops.specs.declared.delta.Inserted.{Inserted}
use Rattle.ops.specs.declared.delta.Inserted.TheVariants.{Text, Embed}
use Rattle.ops.specs.declared.delta.Op.{Op}
use Rattle.ops.specs.declared.delta.Op.TheVariants.{Insert, Delete, Retain}
use Rattle.ops.specs.declared.delta.DeltaOp.{DeltaOp}
use Rattle.ops.specs.declared.delta.Delta.{Delta}
use Rattle.carrying.specs.Turns.{given}

-- A text part, be it empty, that starts or ends past n lent units.
abbrev pub past_part : ℕ → Inserted → Bool
past_part n (Text s k) = ltb n (s + k)
past_part n (Embed e) = false

abbrev pub past_end : ℕ → Op → Bool
past_end n (Insert i) = past_part n i
past_end n (Delete k) = false
past_end n (Retain k) = false

unfoldable pub any_past : ℕ → List DeltaOp → Bool
any_past n [] = false
any_past n (d ∷ ds) = past_end n d.op || any_past n ds

-- Refusal MANY (7): over 256 operations, or such a part.
unfoldable pub many_of : ℕ → Delta → Bool
many_of n d = ltb 256 d.count || any_past n (given d)

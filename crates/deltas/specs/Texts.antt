-- The units that a delta brings.
use Rattle.std.specs.Prelude.{ℕ, List, [], take, drop}
use Rattle.ops.specs.declared.delta.Inserted.{Inserted}
use Rattle.ops.specs.declared.delta.Inserted.TheVariants.{Text, Embed}
use Rattle.ops.specs.declared.delta.Op.{Op}
use Rattle.ops.specs.declared.delta.Op.TheVariants.{Insert, Delete, Retain}

-- The units of an operation's text: a part of those that were lent.
abbrev pub part_units : List ℕ → Inserted → List ℕ
part_units t (Text s n) = take n (drop s t)
part_units t (Embed e) = []

abbrev pub units_of : List ℕ → Op → List ℕ
units_of t (Insert i) = part_units t i
units_of t (Delete n) = []
units_of t (Retain n) = []

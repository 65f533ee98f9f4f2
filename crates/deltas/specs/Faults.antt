-- What is wrong with one operation, as the code has it: the rules' `fault_at` and `behind` of the operation that it says.
use Rattle.std.specs.Prelude.{ℕ, ◌+◌, min, cond, List, take, drop}
use Rattle.units.specs.Surrogates.{paired, splits_pair}
use Rattle.rules.specs.Calls.{too_long}
use Rattle.ops.specs.declared.delta.Inserted.{Inserted}
use Rattle.ops.specs.declared.delta.Inserted.TheVariants.{Text, Embed}
use Rattle.ops.specs.declared.delta.Op.{Op}
use Rattle.ops.specs.declared.delta.Op.TheVariants.{Insert, Delete, Retain}

abbrev pub part_fault : List ℕ → Inserted → ℕ
part_fault t (Text s n) = cond (paired (take n (drop s t))) 0 3
part_fault t (Embed e) = 0

abbrev pub fault_for : List ℕ → ℕ → List ℕ → Op → ℕ
fault_for us c t (Insert i) = part_fault t i
fault_for us c t (Delete n) = cond (splits_pair us (c + n)) 2 (cond (too_long us c n) 1 0)
fault_for us c t (Retain n) = cond (splits_pair us (c + n)) 2 0

-- The place behind it, in a visible text of so many units.
abbrev pub place_after : ℕ → ℕ → Op → ℕ
place_after l c (Insert i) = c
place_after l c (Delete n) = min l (c + n)
place_after l c (Retain n) = min l (c + n)

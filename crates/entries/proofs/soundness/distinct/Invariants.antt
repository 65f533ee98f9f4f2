use Prim.Native.Nat.{◌-◌, ◌+◌}
use mathlib.Core.Path.{◌≡◌}
use Rattle.entries.specs.Entry.{entries}
use Rattle.entries.specs.Order.{distinct}
use Rattle.entries.proofs.soundness.distinct.Given as goal

abbrev pub invariant-loop-i : goal.invariant-loop-i
invariant-loop-i l = distinct (entries l.table (l.from + l.i) (l.count - l.i)) ≡ distinct (entries l.table l.from l.count)

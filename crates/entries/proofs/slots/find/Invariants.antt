use Prim.Native.Nat.{◌-◌, ◌+◌}
use mathlib.Core.Path.{◌≡◌}
use mathlib.Core.List.{◌∷◌}
use Rattle.entries.specs.Entry.{entries, seek}
use Rattle.entries.proofs.slots.find.Given as goal

abbrev pub invariant-loop-i : goal.invariant-loop-i
invariant-loop-i l = l.i + seek (l.kind ∷ l.bytes) (entries l.table (l.from + l.i) (l.count - l.i)) ≡ seek (l.kind ∷ l.bytes) (entries l.table l.from l.count)

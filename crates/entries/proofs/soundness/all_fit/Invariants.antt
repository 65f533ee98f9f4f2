use Prim.Native.Nat.{◌-◌, ◌+◌}
use mathlib.Core.Path.{◌≡◌}
use Rattle.entries.specs.Order.{all_fit}
use Rattle.entries.proofs.soundness.all_fit.Given as goal

abbrev pub invariant-loop-i : goal.invariant-loop-i
invariant-loop-i l = all_fit l.table (l.from + l.i) (l.count - l.i) ≡ all_fit l.table l.from l.count

use Prim.Native.Nat.{◌≤◌}
use mathlib.Core.Path.{◌≡◌}
use mathlib.Core.Bool.{Bool}
use Rattle.cursors.specs.Cursors.{records_at, Stands}
use Rattle.cursors.proofs.walk.skip.Given as goal

abbrev pub invariant-loop-s : goal.invariant-loop-s
invariant-loop-s l = Stands l.items l.s × ((j : Bool) → records_at j l.items l.initial.s ≡ records_at j l.items l.s) × (l.s.todo ≤ l.initial.s.todo)

abbrev pub decreases-loop-s : goal.decreases-loop-s
decreases-loop-s l = l.s.todo

use Prim.Native.Nat.{◌+◌, ◌*◌, ◌≤◌}
use mathlib.Core.Path.{◌≡◌}
use lib.ListN.{drop}
use Rattle.carrying.specs.Turns.{bringing}
use Rattle.deltas.proofs.checks.total.Given as goal

abbrev pub invariant-loop-d : goal.invariant-loop-d
invariant-loop-d l = (l.sum + bringing (drop l.d-index l.ops) ≡ bringing l.ops) × (l.sum ≤ l.d-index * 4294967296)

use Prim.Native.Nat.{ℕ, ◌+◌, ◌≤◌}
use mathlib.Core.Path.{◌≡◌}
use mathlib.Core.List.{List, ◌∷◌}
use lib.ListN.{length}
use Rattle.attrs.specs.Packed.{env_of}
use Rattle.rules.specs.Reading.{Glyph}
use Rattle.rules.specs.Runs.{runs_from}
use Rattle.cursors.specs.Records.{records_of, runs_by}
use Rattle.cursors.specs.Cursors.{rest, Stands}
use Rattle.cursors.proofs.Opens.{Open}
use Rattle.cursors.proofs.walk.gather.Given as goal

abbrev pub invariant-loop-s : goal.invariant-loop-s
invariant-loop-s l =
    Stands l.items l.s
    × ((a : ℕ) (g : Glyph) (gs : List Glyph) → a + length (g ∷ gs) ≡ l.initial.s.passed
    → Open l.joined l.items l.from.force a l.s (records_of a (runs_by l.joined (runs_from (g ∷ gs) (env_of l.initial.s.force) (rest l.items l.initial.s)))))
    × (l.s.todo ≤ l.initial.s.todo)
    × (l.initial.s.passed ≤ l.s.passed)

abbrev pub decreases-loop-s : goal.decreases-loop-s
decreases-loop-s l = l.s.todo

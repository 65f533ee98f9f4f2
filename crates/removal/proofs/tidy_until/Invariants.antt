use Prim.Native.Nat.{◌-◌}
use Rattle.arena.specs.Places.{Going}
use Rattle.attrs.specs.Packed.{env_of}
use Rattle.removal.specs.Tidies.{tidy_first}
use Rattle.removal.proofs.tidy_until.Given as goal

abbrev pub invariant-loop-at : goal.invariant-loop-at
invariant-loop-at l =
    Going (tidy_first (l.initial.at.todo - l.stop) (env_of l.start) (env_of l.end)) l.fn.h l.initial.items l.initial.at (tidy_first (l.at.todo - l.stop) (env_of l.start) (env_of l.end)) l.fn.h l.items l.at

abbrev pub decreases-loop-at : goal.decreases-loop-at
decreases-loop-at l = l.at.todo

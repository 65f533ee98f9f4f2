use Rattle.arena.specs.Places.{Going}
use Rattle.removal.specs.Tidies.{deleting}
use Rattle.removal.proofs.delete_units.Given as goal

abbrev pub invariant-loop-at : goal.invariant-loop-at
invariant-loop-at l = Going (deleting l.len) l.h l.initial.items l.initial.at (deleting l.rest) l.h l.items l.at

abbrev pub decreases-loop-at : goal.decreases-loop-at
decreases-loop-at l = l.at.todo

use Rattle.arena.specs.Places.{Going}
use Rattle.removal.specs.Tidies.{ending}
use Rattle.removal.proofs.gap_end.Given as goal

abbrev pub invariant-loop-at : goal.invariant-loop-at
invariant-loop-at l = Going ending l.fn.h l.items l.initial.at ending l.fn.h l.items l.at

abbrev pub decreases-loop-at : goal.decreases-loop-at
decreases-loop-at l = l.at.todo

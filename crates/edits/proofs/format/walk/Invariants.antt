use Rattle.attrs.specs.Packed.{says}
use Rattle.rules.specs.Edits.{walking}
use Rattle.arena.specs.Places.{Going}
use Rattle.edits.proofs.format.walk.Given as goal

abbrev pub invariant-loop-at : goal.invariant-loop-at
invariant-loop-at l = Going (walking (says l.attrs) l.initial.left (says l.initial.rest)) l.h l.initial.items l.initial.at (walking (says l.attrs) l.left (says l.rest)) l.h l.items l.at

abbrev pub decreases-loop-at : goal.decreases-loop-at
decreases-loop-at l = l.at.todo

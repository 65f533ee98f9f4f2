use Rattle.attrs.specs.Packed.{says}
use Rattle.arena.specs.Places.{Going}
use Rattle.marks.specs.Moves.{settling}
use Rattle.marks.proofs.minimize_attr_changes.Given as goal

abbrev pub invariant-loop-at : goal.invariant-loop-at
invariant-loop-at l = Going (settling (says l.attrs)) l.fn.h l.items l.initial.at (settling (says l.attrs)) l.fn.h l.items l.at

abbrev pub decreases-loop-at : goal.decreases-loop-at
decreases-loop-at l = l.at.todo

use Rattle.attrs.specs.Packed.{says}
use Rattle.rules.specs.Edits.{closing}
use Rattle.arena.specs.Places.{Going}
use Rattle.marks.proofs.drop_restored.Given as goal

abbrev pub invariant-loop-at : goal.invariant-loop-at
invariant-loop-at l = Going (closing (says l.initial.left)) l.fn.h l.items l.initial.at (closing (says l.left)) l.fn.h l.items l.at

abbrev pub decreases-loop-at : goal.decreases-loop-at
decreases-loop-at l = l.at.todo

-- The next run can be asked for, and takes an item.
use Rattle.cursors.specs.Cursors.{Ready}
use Rattle.calls.proofs.answer.show.Given as goal

abbrev pub invariant-loop-run : goal.invariant-loop-run
invariant-loop-run g l = Ready l.run-iterator

abbrev pub decreases-loop-run : goal.decreases-loop-run
decreases-loop-run g l = l.run-iterator.spot.todo

use Rattle.marks.proofs.Puts.{Marking}
use Rattle.marks.proofs.put_marks.Given as goal

abbrev pub invariant-loop-key : goal.invariant-loop-key
invariant-loop-key l = Marking l.initial.at.head l.initial.items l.initial.at.place l.set l.key-iterator.left l.at.head l.items l.at.place

use Rattle.words.proofs.Writing.{Listing}
use Rattle.words.proofs.show.put_attrs.Given as goal

abbrev pub invariant-loop-key : goal.invariant-loop-key
invariant-loop-key l = Listing l.set l.initial.out l.out l.n l.at l.key-iterator.left

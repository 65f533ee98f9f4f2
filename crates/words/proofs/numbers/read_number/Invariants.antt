use Rattle.words.proofs.Figures.{Reading}
use Rattle.words.proofs.numbers.read_number.Given as goal

abbrev pub invariant-loop-b : goal.invariant-loop-b
invariant-loop-b l = Reading l.base l.w l.value l.b-index

use Rattle.deltas.proofs.Reading.{NoneYet}
use Rattle.deltas.proofs.checks.any_past.Given as goal

abbrev pub invariant-loop-d : goal.invariant-loop-d
invariant-loop-d l = NoneYet l.n l.ops l.d-index

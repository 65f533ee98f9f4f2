use Rattle.lines.specs.Deltas.{start_ops}
use Rattle.lines.proofs.Operations.{Ordering}
use Rattle.lines.proofs.deltas.all_ops.Given as goal

abbrev pub invariant-loop : goal.invariant-loop
invariant-loop l = Ordering l.rest.line.now (start_ops l.fn.rest.from) l.initial.units l.d l.units l.counter

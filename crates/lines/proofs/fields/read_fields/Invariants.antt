use Rattle.lines.specs.Fields.{start_at}
use Rattle.lines.proofs.Gathering.{Gathering}
use Rattle.lines.proofs.fields.read_fields.Given as goal

abbrev pub invariant-loop : goal.invariant-loop
invariant-loop l = Gathering l.rest.line.now l.marks (start_at l.fn.rest.from l.count) l.initial.units l.f l.units l.counter

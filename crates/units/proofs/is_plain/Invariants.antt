use Rattle.units.proofs.Plain.{Looked}
use Rattle.units.proofs.is_plain.Given as goal

abbrev pub invariant-loop-unit : goal.invariant-loop-unit
invariant-loop-unit l = Looked l.units l.unit-index l.plain

use Rattle.rules.specs.Calls.{visible_units}
use Rattle.layout.specs.Memory.{list_of}
use Rattle.deltas.proofs.Refusals.{Faultless}
use Rattle.deltas.proofs.faults.fault.Given as goal

abbrev pub invariant-loop-d : goal.invariant-loop-d
invariant-loop-d l = Faultless (visible_units l.used (list_of l.h l.items)) l.chunk l.ops l.d-index l.c

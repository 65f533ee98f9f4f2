use Rattle.rules.specs.Calls.{new_units}
use Rattle.ops.specs.Ops.{op_of}
use Rattle.changes.specs.Appends.{appended}
use mathlib.Core.List.{map}
use Rattle.deltas.proofs.Appending.{Putting}
use Rattle.deltas.proofs.append.append_all.Given as goal

abbrev pub invariant-loop-d : goal.invariant-loop-d
invariant-loop-d l = Putting l.chunk l.ops (appended l.used (new_units (map (op_of l.chunk) l.ops)) l.initial.units) l.d-index l.at l.units

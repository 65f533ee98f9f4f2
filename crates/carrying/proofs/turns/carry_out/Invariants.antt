use Rattle.rules.specs.Delta.{carry_out}
use Rattle.arena.specs.Places.{placed}
use Rattle.carrying.specs.Turns.{laid}
use Rattle.carrying.proofs.Carrying.{Under}
use Rattle.carrying.proofs.turns.carry_out.Given as goal

abbrev pub invariant-loop-d : goal.invariant-loop-d
invariant-loop-d l = Under l.ops (carry_out (laid l.used l.ops) (placed l.initial.at.head l.initial.work l.initial.at.place)) l.d-index l.next l.at.head l.work l.at.place

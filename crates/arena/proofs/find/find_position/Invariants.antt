use Rattle.arena.specs.Places.{Going, placing, start_of}
use Rattle.arena.proofs.find.find_position.Given as goal

abbrev pub invariant-loop-p : goal.invariant-loop-p
invariant-loop-p l = Going (placing l.index) l.h l.initial.items (start_of l.h) (placing l.rest) l.h l.items l.p

abbrev pub decreases-loop-p : goal.decreases-loop-p
decreases-loop-p l = l.p.todo

use Prim.Native.Nat.{◌-◌}
use Rattle.events.proofs.Going.{Walking}
use Rattle.events.proofs.walk.walk.Given as goal

abbrev pub invariant-loop : goal.invariant-loop
invariant-loop l = Walking l.back l.limit l.items l.initial.ops l.ops l.a l.n l.at (l.end - l.counter) l.fn.h.first l.end

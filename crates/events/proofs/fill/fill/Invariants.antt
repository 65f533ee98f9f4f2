use Prim.Native.Nat.{◌-◌}
use Rattle.events.proofs.Texts.{Filling}
use Rattle.events.proofs.fill.fill.Given as goal

abbrev pub invariant-loop : goal.invariant-loop
invariant-loop l = Filling l.back l.items l.units l.initial.out l.out l.n l.at (l.end - l.counter) l.fn.h.first l.end

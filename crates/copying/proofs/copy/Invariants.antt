use Rattle.std.proofs.Common.{◌≡◌}
use lib.Seq.{paste}
use Rattle.copying.proofs.copy.Given as goal

abbrev pub invariant-loop-i : goal.invariant-loop-i
invariant-loop-i g l = l.to ≡ paste l.fn.to 0 l.from l.i

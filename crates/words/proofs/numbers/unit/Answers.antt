use mathlib.Core.Path.{sym}
use native.Mathlib.Omega.{arith}
use Rattle.words.proofs.Figures.{unit-small}
use Rattle.words.proofs.numbers.unit.Goals as goal

pub overflow_cast-result : goal.overflow_cast-result
overflow_cast-result c = omega (arith, unit-small c.args.w.now _ (omega arith) (sym c.in_ok-u.ensures))

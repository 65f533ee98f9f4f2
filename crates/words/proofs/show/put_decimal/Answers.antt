use native.Mathlib.Omega.{arith}
use Rattle.words.proofs.Writing.{decimal-wrote}
use Rattle.words.proofs.show.put_decimal.Goals as goal

pub returns : goal.returns
returns c =
    let e = c.decimal-k.ensures in
    rw (← c.from.ensures) (decimal-wrote c.from.result _ _ (omega arith) e.len e.digits c.put.ensures)

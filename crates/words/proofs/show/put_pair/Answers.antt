use native.Mathlib.Omega.{arith}
use Rattle.words.proofs.Writing.{spelled_short, pair-wrote}
use Rattle.words.proofs.show.put_pair.Goals as goal

pub put-after-requires : goal.put-after-requires
put-after-requires c = omega (arith, spelled_short 20 c.args.key, c.put_decimal-between.ensures, c.put-before.ensures)

pub put_decimal-requires : goal.put_decimal-requires
put_decimal-requires c = omega (arith, spelled_short 20 c.args.key, c.put-after.ensures, c.put_decimal-between.ensures, c.put-before.ensures)

pub returns : goal.returns
returns c = pair-wrote _ _ c.requires c.put-before.ensures c.put_decimal-between.ensures c.put-after.ensures c.put_decimal.ensures

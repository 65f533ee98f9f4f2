-- `carrying::turns::insert_text` meets its contract. Assumes nothing.
use native.Mathlib.Omega.{arith}
use Rattle.carrying.proofs.Carrying.{text-none, text-some}
use Rattle.carrying.proofs.turns.insert_text.Goals as goal

pub returns-then-len-eq0 : goal.returns-then-len-eq0
returns-then-len-eq0 c = text-none c.requires.0 _ _ _ c.if-len-eq0.true

pub insert-requires : goal.insert-requires
insert-requires c = (c.requires.0, c.requires.1, (omega (arith, c.if-len-eq0.false), c.requires.2))

pub returns : goal.returns
returns c = text-some _ _ _ c.if-len-eq0.false c.insert.ensures

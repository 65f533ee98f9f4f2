-- `carrying::turns::step` meets its contract: each operation by its edit. Assumes nothing.
use native.Mathlib.Omega.{arith}
use Rattle.carrying.specs.Turns.{rule_of}
use Rattle.carrying.proofs.Carrying.{by-op, op_room}
use Rattle.carrying.proofs.turns.step.Goals as goal

pub insert_part-requires : goal.insert_part-requires
insert_part-requires c = (c.requires.0, c.requires.1, op_room c.args.used c.in-Insert.is c.requires.2)

pub delete_here-requires : goal.delete_here-requires
delete_here-requires c = (c.requires.0, omega (arith, c.requires.1))

pub insert_format-requires : goal.insert_format-requires
insert_format-requires c = (c.requires.0, c.requires.1)

pub returns-in-Insert : goal.returns-in-Insert
unfolding rule_of
returns-in-Insert c = by-op _ _ c.in-Insert.is c.insert_part.ensures

pub returns-in-Delete : goal.returns-in-Delete
unfolding rule_of
returns-in-Delete c = by-op _ _ c.in-Delete.is c.delete_here.ensures

pub returns-in-Retain : goal.returns-in-Retain
unfolding rule_of
returns-in-Retain c = by-op _ _ c.in-Retain.is c.insert_format.ensures

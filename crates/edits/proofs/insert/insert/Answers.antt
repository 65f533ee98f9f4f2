-- `edits::insert::insert` meets its contract. Assumes nothing.
use native.Mathlib.Omega.{arith}
use Rattle.edits.proofs.Inserts.{insert-carried}
use Rattle.marks.proofs.Opens.{opens-room}
use Rattle.marks.proofs.Rooms.{carried-next}
use Rattle.edits.proofs.insert.insert.Goals as goal

pub put-new-requires : goal.put-new-requires
put-new-requires c = record { stands = c.insert_attributes-opened.ensures.put.stands; room = omega (arith, opens-room c.insert_attributes-opened.ensures, c.requires.1); range = c.requires.2 }

pub insert_negated_attributes-requires : goal.insert_negated_attributes-requires
insert_negated_attributes-requires c = (c.put-new.ensures.stands, omega (arith, carried-next c.put-new.ensures, opens-room c.insert_attributes-opened.ensures, c.requires.1))

pub returns : goal.returns
returns c =
    insert-carried c.requires.0 c.args.attrs _ c.unset_missing-all.ensures c.minimize_attr_changes-from.ensures c.insert_attributes-opened.ensures _ c.put-new.ensures
    c.insert_negated_attributes.ensures

-- `edits::format::insert_format` meets its contract: Settle, Open, the walk, and Close. Assumes nothing.
use native.Mathlib.Omega.{arith}
use Rattle.attrs.specs.Packed.{says}
use Rattle.rules.specs.Edits.{walking}
use Rattle.arena.proofs.Carried.{going_done}
use Rattle.marks.proofs.Opens.{settled-carried}
use Rattle.marks.proofs.Opens.{opens-room}
use Rattle.edits.proofs.format.insert_format.Goals as goal

pub walk-walked-requires : goal.walk-walked-requires
walk-walked-requires c = (c.insert_attributes-opened.ensures.put.stands, omega (arith, opens-room c.insert_attributes-opened.ensures, c.requires.1))

pub insert_negated_attributes-requires : goal.insert_negated_attributes-requires
insert_negated_attributes-requires c = (c.walk-walked.ensures.going.stands, omega (arith, c.walk-walked.ensures.room, opens-room c.insert_attributes-opened.ensures, c.requires.1))

pub returns : goal.returns
returns c =
    settled-carried c.insert_attributes-opened.ensures (walking (says c.args.attrs) c.args.len) c.minimize_attr_changes-from.ensures
    (going_done c.walk-walked.ensures.going c.insert_negated_attributes.ensures)

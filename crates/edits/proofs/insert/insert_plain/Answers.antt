-- `edits::insert::insert_plain` meets its contract. Assumes nothing.
use Rattle.edits.proofs.Inserts.{plain_carried}
use Rattle.edits.proofs.insert.insert_plain.Goals as goal

pub returns : goal.returns
returns c = plain_carried _ c.empty.ensures c.minimize_attr_changes-from.ensures _ c.put.ensures

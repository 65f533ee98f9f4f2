-- `entries::slots::put` meets its contract. Assumes nothing.
use native.Mathlib.Omega.{arith}
use Rattle.entries.proofs.Entries.{put_is}
use Rattle.entries.proofs.slots.put.Goals as goal

pub returns : goal.returns
returns c = put_is c.args.table.now c.args.slot c.args.kind c.args.bytes.now (omega (arith, c.told-table)) _ (omega arith) _ c.copy.ensures

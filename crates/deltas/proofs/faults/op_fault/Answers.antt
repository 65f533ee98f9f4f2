-- `deltas::faults::op_fault` meets its contract. Assumes nothing.
use Rattle.deltas.proofs.Refusals.{op-in}
use Rattle.deltas.proofs.faults.op_fault.Goals as goal

pub part_fault-requires : goal.part_fault-requires
part_fault-requires c = op-in _ c.in-Insert.is c.requires.3

pub returns-in-Insert : goal.returns-in-Insert
returns-in-Insert c = rw c.in-Insert.is c.part_fault.ensures

pub returns-in-Delete : goal.returns-in-Delete
returns-in-Delete c = rw c.in-Delete.is c.delete_fault.ensures

pub returns-in-Retain : goal.returns-in-Retain
returns-in-Retain c = rw c.in-Retain.is c.retain_fault.ensures

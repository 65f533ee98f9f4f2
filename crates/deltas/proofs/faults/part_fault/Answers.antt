-- `deltas::faults::part_fault` meets its contract. Assumes nothing.
use Rattle.deltas.proofs.Refusals.{part_in_lem}
use Rattle.deltas.proofs.faults.part_fault.Goals as goal

pub text_fault-requires : goal.text_fault-requires
text_fault-requires c = part_in_lem _ _ _ c.in-Text.is c.requires

pub returns-in-Text : goal.returns-in-Text
returns-in-Text c = rw c.in-Text.is c.text_fault.ensures

-- `refusals::pair_fault` meets its contract. Assumes nothing.
use Rattle.cuts.proofs.Sounds.{used-is, sound-reads}
use Rattle.refusals.proofs.pair_fault.Goals as goal

pub slice_bounds-cuts_pair-end : goal.slice_bounds-cuts_pair-end
slice_bounds-cuts_pair-end c = used-is _ _ _ c.requires

pub cuts_pair-requires : goal.cuts_pair-requires
cuts_pair-requires c = sound-reads _ _ _ c.requires

-- `arena::writes::split` meets its contract. Assumes nothing.
use Rattle.arena.proofs.Steps.{split-carried, cut_asks}
use Rattle.arena.proofs.writes.split.Goals as goal

pub cut-head-requires : goal.cut-head-requires
cut-head-requires c = cut_asks c.requires

pub returns : goal.returns
returns c = split-carried c.requires _ c.cut-head.ensures.0 _ c.cut-head.ensures.1

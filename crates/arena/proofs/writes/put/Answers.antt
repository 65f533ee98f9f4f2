-- `arena::writes::put` meets its contract. Assumes nothing.
use Rattle.arena.specs.Places.{passed_force}
use Rattle.arena.proofs.Steps.{put-carried, put_asks}
use Rattle.arena.proofs.writes.put.Goals as goal

pub put_after-head-requires : goal.put_after-head-requires
put_after-head-requires c = put_asks c.requires

pub returns : goal.returns
unfolding passed_force
returns c = put-carried c.requires _ c.put_after-head.ensures.0 _ c.put_after-head.ensures.1 _ (rw c.passed-force.ensures)

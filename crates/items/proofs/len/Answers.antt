-- `items::len` meets its contract. Assumes nothing.
use Rattle.items.proofs.Showing.{length-told}
use Rattle.items.proofs.len.Goals as goal

pub returns : goal.returns
returns c = rw c.ok_or.ensures.value (length-told _ _ _ _ c.measure.ensures)

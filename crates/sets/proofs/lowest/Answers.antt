-- `sets::lowest` meets its contract.
use borrow.Author.Rules.{rules}
use Rattle.sets.proofs.Keys.{keys_none, keys-next}
use Rattle.sets.proofs.lowest.Goals as goal

pub returns-then-mask-eq0 : goal.returns-then-mask-eq0
returns-then-mask-eq0 c = rw (c.if-mask-eq0.true, keys_none)

pub returns-else-mask-eq0 : goal.returns-else-mask-eq0
returns-else-mask-eq0 c = rw (keys-next c.args.mask (search rules) c.if-mask-eq0.false)

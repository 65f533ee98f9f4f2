-- `attrs::Attrs::put` meets its contract.
use Rattle.attrs.proofs.Stores.{put_holds}
use borrow.Author.Rules.{rules}
use Rattle.attrs.proofs.Attrs.put.Goals as goal

pub returns : goal.returns
returns c = search (rules, put_holds)

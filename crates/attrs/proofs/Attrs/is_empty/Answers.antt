-- `attrs::Attrs::is_empty` meets its contract.
use borrow.Author.Rules.{rules}
use Rattle.attrs.proofs.Tests.{bare_mask}
use Rattle.attrs.proofs.Attrs.is_empty.Goals as goal

pub returns : goal.returns
returns c = bare_mask _ (search rules)

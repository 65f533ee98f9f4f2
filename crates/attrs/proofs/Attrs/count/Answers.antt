-- `attrs::Attrs::count` meets its contract.
use mathlib.Core.Path.{sym, ap, ◌∙◌}
use borrow.Author.Rules.{rules}
use lib.ListN.{length}
use Rattle.sets.proofs.Keys.{count-keys}
use Rattle.attrs.proofs.Slots.{present-keys}
use Rattle.attrs.proofs.Attrs.count.Goals as goal

pub returns : goal.returns
returns c = count-keys _ (search rules) ∙ sym (ap length (present-keys _))

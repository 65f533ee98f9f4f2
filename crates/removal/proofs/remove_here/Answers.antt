-- `removal::remove_here` meets its contract. Assumes nothing.
use mathlib.Core.Path.{sym, ◌∙◌}
use Rattle.removal.proofs.Removes.{removes-plain, removes-tidied}
use Rattle.removal.proofs.remove_here.Goals as goal

pub returns-then-is_empty : goal.returns-then-is_empty
returns-then-is_empty c = removes-plain c.requires.0 _ (sym c.is_empty.ensures ∙ c.if-is_empty.true) c.delete_units.ensures

pub returns : goal.returns
returns c = removes-tidied c.requires.0 _ (sym c.is_empty.ensures ∙ c.if-is_empty.false) c.delete_and_tidy.ensures

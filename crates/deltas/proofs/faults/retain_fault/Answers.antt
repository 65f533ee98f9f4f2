-- `deltas::faults::retain_fault` meets its contract. Assumes nothing.
use mathlib.Core.Path.{sym, ◌∙◌}
use Rattle.deltas.proofs.faults.retain_fault.Goals as goal

pub returns-then-cuts_pair : goal.returns-then-cuts_pair
returns-then-cuts_pair c = rw (sym (rw (c.from.ensures, c.from-2.ensures) at c.cuts_pair.ensures) ∙ c.if-cuts_pair.true)

pub returns : goal.returns
returns c = rw (sym (rw (c.from.ensures, c.from-2.ensures) at c.cuts_pair.ensures) ∙ c.if-cuts_pair.false)

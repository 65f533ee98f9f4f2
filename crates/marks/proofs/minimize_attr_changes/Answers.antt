-- `marks::minimize_attr_changes` meets its contract: what Settle still passes from here is what it passed from the start. Assumes nothing.
use mathlib.Core.Path.{sym, ◌∙◌}
use Rattle.arena.proofs.Standing.{right_lt}
use Rattle.marks.proofs.Settles.{settled-past, settled-stop, settled-end}
use Rattle.marks.proofs.minimize_attr_changes.Goals as goal

pub bounds-items-at : goal.bounds-items-at
bounds-items-at c = (right_lt c.loop-at.invariant.stands c.loop-at-test.true).1

pub loop-at-preserved : goal.loop-at-preserved
loop-at-preserved c = settled-past _ c.loop-at.invariant c.loop-at-test.true (sym c.passes.ensures ∙ c.if-passes.true) _ c.forward-at.ensures

pub returns-else-passes : goal.returns-else-passes
returns-else-passes c = settled-stop _ c.loop-at.invariant c.loop-at-test.true (sym c.passes.ensures ∙ c.if-passes.false)

pub returns-after-loop-at : goal.returns-after-loop-at
returns-after-loop-at c = settled-end _ c.loop-at.invariant c.loop-at-test.false

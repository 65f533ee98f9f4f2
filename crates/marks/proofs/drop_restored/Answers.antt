-- `marks::drop_restored` meets its contract: what Close still has to do from here, it had to do from the start. Assumes nothing.
use mathlib.Core.Path.{sym, ◌∙◌}
use Rattle.arena.proofs.Standing.{right_lt}
use Rattle.marks.proofs.Closes.{closed-past, closed-stop, closed-end}
use Rattle.marks.proofs.drop_restored.Goals as goal

pub bounds-items-at : goal.bounds-items-at
bounds-items-at c = (right_lt c.loop-at.invariant.stands c.loop-at-test.true).1

pub loop-at-preserved : goal.loop-at-preserved
loop-at-preserved c = closed-past c.loop-at.invariant c.loop-at-test.true (sym c.passes.ensures ∙ c.if-passes.true) _ c.dropped-left.ensures _ c.forward-at.ensures

pub returns-else-passes-clause-going : goal.returns-else-passes-clause-going
returns-else-passes-clause-going c = closed-stop c.loop-at.invariant c.loop-at-test.true (sym c.passes.ensures ∙ c.if-passes.false)

pub returns-after-loop-at-clause-going : goal.returns-after-loop-at-clause-going
returns-after-loop-at-clause-going c = closed-end c.loop-at.invariant c.loop-at-test.false

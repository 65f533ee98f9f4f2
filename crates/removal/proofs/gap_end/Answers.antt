-- `removal::gap_end` meets its contract: the end of the gap from here is the end from the start. Assumes nothing.
use mathlib.Core.Path.{sym, ◌∙◌}
use Rattle.arena.proofs.Standing.{right_lt}
use Rattle.removal.proofs.Gaps.{ended-past, ended_here, ended-last}
use Rattle.removal.proofs.gap_end.Goals as goal

pub bounds-items-at : goal.bounds-items-at
bounds-items-at c = (right_lt c.loop-at.invariant.stands c.loop-at-test.true).1

pub loop-at-preserved : goal.loop-at-preserved
loop-at-preserved c = ended-past c.loop-at.invariant c.loop-at-test.true (sym c.stays_in_gap.ensures ∙ c.if-stays_in_gap.true) _ c.forward-at.ensures

pub returns-else-stays_in_gap : goal.returns-else-stays_in_gap
returns-else-stays_in_gap c = ended_here c.loop-at.invariant c.loop-at-test.true (sym c.stays_in_gap.ensures ∙ c.if-stays_in_gap.false)

pub returns-after-loop-at : goal.returns-after-loop-at
returns-after-loop-at c = ended-last c.loop-at.invariant c.loop-at-test.false

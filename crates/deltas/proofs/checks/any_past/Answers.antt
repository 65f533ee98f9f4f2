-- `deltas::checks::any_past` meets its contract: no part read so far lies past the end. Assumes nothing.
use mathlib.Core.Path.{sym, ◌∙◌}
use Rattle.carrying.proofs.Carrying.{next-is}
use Rattle.deltas.proofs.Reading.{past-here, past-later, past-none}
use Rattle.deltas.proofs.checks.any_past.Goals as goal

pub returns-then-past_end : goal.returns-then-past_end
returns-then-past_end c = sym (past-here _ _ c.loop-d.d-index _ (next-is _ _ c.loop-d-test.true) c.loop-d.invariant (sym c.past_end.ensures ∙ c.if-past_end.true))

pub loop-d-preserved : goal.loop-d-preserved
loop-d-preserved c = past-later _ _ c.loop-d.d-index _ (next-is _ _ c.loop-d-test.true) c.loop-d.invariant (sym c.past_end.ensures ∙ c.if-past_end.false)

pub returns : goal.returns
returns c = sym (past-none c.args.n c.args.ops.now c.loop-d.d-index c.loop-d.invariant c.loop-d-test.false)

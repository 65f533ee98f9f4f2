-- `entries::soundness::distinct` meets its contract. The invariant: the slots that are left are distinct exactly where all are. Assumes nothing.
use mathlib.Core.Path.{sym, ◌∙◌}
use Rattle.entries.specs.Order.{distinct}
use Rattle.entries.proofs.Entries.{rest_end, distinct-step}
use Rattle.entries.proofs.soundness.distinct.Goals as goal

pub returns-then-repeats : goal.returns-then-repeats
returns-then-repeats c =
    let is = sym c.repeats.ensures ∙ c.if-repeats.true in
    sym (distinct-step _ _ _ _ c.loop-i-test.true _ is) ∙ c.loop-i.invariant

pub loop-i-preserved : goal.loop-i-preserved
loop-i-preserved c =
    let is = sym c.repeats.ensures ∙ c.if-repeats.false in
    sym (distinct-step _ _ _ _ c.loop-i-test.true _ is) ∙ c.loop-i.invariant

pub returns : goal.returns
unfolding distinct
returns c = rw (rest_end _ _ _ _ c.loop-i-test.false) at c.loop-i.invariant

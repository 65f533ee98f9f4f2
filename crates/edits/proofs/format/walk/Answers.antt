-- `edits::format::walk` meets its contract: what is left of the walk gives what the whole walk gives. Assumes nothing.
use mathlib.Core.Path.{sym, ap, ◌∙◌}
use native.Mathlib.Omega.{arith}
use Rattle.attrs.specs.Packed.{says}
use Rattle.arena.proofs.Standing.{right_lt, neat-here}
use Rattle.arena.proofs.Steps.{forward-carried, cut-more}
use Rattle.edits.proofs.Formats.{walked_end, walked_stop, walked-cut, walked_on, through_means, cut_means}
use Rattle.edits.proofs.format.walk.Goals as goal
use Rattle.edits.proofs.format.walk.Goals.{in-Pass, in-Mark, in-Through}

pub bounds-items-at : goal.bounds-items-at
bounds-items-at c = (right_lt c.loop-at.invariant.stands c.loop-at-test.true).1

pub delete-requires : goal.delete-requires
delete-requires c = (right_lt c.loop-at.invariant.stands c.loop-at-test.true).1

pub remembered_after-rest-requires : goal.remembered_after-rest-requires
remembered_after-rest-requires c = neat-here c.loop-at.invariant.stands c.loop-at-test.true

pub overflow_sub-left : goal.overflow_sub-left
overflow_sub-left c = rw (c.width-left.ensures, c.unpack.ensures) (through_means _ _ _ _ _ (sym c.in-Through.ensures))

pub split-cut-requires : goal.split-cut-requires
split-cut-requires c =
    let k = cut_means _ _ _ _ _ (sym c.in-Cut.ensures) in
    record { stands = c.loop-at.invariant.stands; room = c.requires.1; more = c.loop-at-test.true; some = k.0; inside = k.1 }

pub forward-place-requires : goal.forward-place-requires
forward-place-requires c =
    let more = (cut-more c.loop-at.invariant.stands c.loop-at-test.true c.split-cut.ensures).0 in
    (more, (right_lt c.split-cut.ensures.stands more).1)

pub returns-in-Cut-clause-going : goal.returns-in-Cut-clause-going
returns-in-Cut-clause-going c =
    let o = c.loop-at.invariant in
    let more = (cut-more o.stands c.loop-at-test.true c.split-cut.ensures).0 in
    walked-cut _ o c.loop-at-test.true c.in-Cut.ensures c.split-cut.ensures (forward-carried c.split-cut.ensures.stands more _ c.forward-place.ensures)

pub forward-at-requires : goal.forward-at-requires
forward-at-requires c = (c.loop-at-test.true, omega (arith, (right_lt c.loop-at.invariant.stands c.loop-at-test.true).1, c.match-turn_of.auto.items))

pub loop-at-preserved : goal.loop-at-preserved
loop-at-preserved c =
    let o = c.loop-at.invariant in
    let more = c.loop-at-test.true in
    let next = c.forward-at.ensures in
    elim c.match-turn_of.branch [
      | in-Pass w ↦ walked_on _ o more _ w.in-Pass.ensures (λ e. cc) (λ e. cc) _ w.items-is _ next _ w.left-is _ (ap says w.rest-is)
      | in-Mark w ↦ walked_on _ o more _ w.in-Mark.ensures (λ e. cc) (λ e. cc) _ (w.items-is ∙ w.delete.ensures) _ next _ w.left-is _ (ap says w.rest-is ∙ w.remembered_after-rest.ensures)
      | in-Through w ↦ walked_on _ o more _ w.in-Through.ensures (λ e. cc) (λ e. cc) _ w.items-is _ next _ (rw (w.width-left.ensures, w.unpack.ensures) at w.left-is) _ (ap says w.rest-is)
    ]

pub returns-after-loop-at-clause-going : goal.returns-after-loop-at-clause-going
returns-after-loop-at-clause-going c = walked_end _ c.loop-at.invariant c.loop-at-test.false

pub returns-in-Stop-clause-going : goal.returns-in-Stop-clause-going
returns-in-Stop-clause-going c = walked_stop _ c.loop-at.invariant c.loop-at-test.true c.in-Stop.ensures

-- `removal::delete_units` meets its contract: what is left to delete from here gives what there was at first. Assumes nothing.
use mathlib.Core.Bool.{cond}
use mathlib.Core.Path.{◌≡◌, ◌∙◌}
use native.Mathlib.Omega.{arith}
use lib.Dec.{ltb}
use borrow.Author.Tests.{lt-ltb, le-ltb}
use Rattle.arena.specs.Writes.{kill_mem}
use Rattle.arena.proofs.Standing.{right_lt}
use Rattle.arena.proofs.Steps.{cut-more}
use Rattle.removal.proofs.Deletes.{deleted-all, deleted-end, deleted-past, deleted-cut}
use Rattle.removal.proofs.delete_units.Goals as goal
use Rattle.removal.proofs.delete_units.Goals.{then-w-gt0, else-w-gt0}

pub returns-then-rest-eq0 : goal.returns-then-rest-eq0
returns-then-rest-eq0 c = deleted-all c.loop-at.invariant c.if-rest-eq0.true

pub bounds-items-at : goal.bounds-items-at
bounds-items-at c = (right_lt c.loop-at.invariant.stands c.loop-at-test.true).1

pub delete-requires : goal.delete-requires
delete-requires c = (right_lt c.split-cut.ensures.stands (cut-more c.loop-at.invariant.stands c.loop-at-test.true c.split-cut.ensures).0).1

pub forward-place-requires : goal.forward-place-requires
forward-place-requires c =
    let more = (cut-more c.loop-at.invariant.stands c.loop-at-test.true c.split-cut.ensures).0 in
    (more, omega (arith, (right_lt c.split-cut.ensures.stands more).1, c.delete.auto.items))

pub returns-then-rest-w : goal.returns-then-rest-w
returns-then-rest-w c =
    let w = rw (c.shown_len-w.ensures, c.unpack.ensures) at c.if-rest-w.true in
    deleted-cut c.loop-at.invariant c.loop-at-test.true c.if-rest-eq0.false w c.split-cut.ensures _ c.delete.ensures _ c.forward-place.ensures

pub forward-at-requires : goal.forward-at-requires
forward-at-requires c = (c.loop-at-test.true, omega (arith, (right_lt c.loop-at.invariant.stands c.loop-at-test.true).1, c.if-w-gt0.auto.items))

pub loop-at-preserved : goal.loop-at-preserved
loop-at-preserved c =
    let at = c.loop-at in
    let n = c.shown_len-w.result in
    let w = rw (c.shown_len-w.ensures, c.unpack.ensures) at c.if-rest-w.false in
    let done : c.if-w-gt0.items ≡ cond (ltb 0 n) (kill_mem at.items at.at.right) at.items =
    elim c.if-w-gt0.branch [ then-w-gt0 x ↦ rw (lt-ltb 0 n x.if-w-gt0.true) (x.items-is ∙ x.delete-then-w-gt0.ensures) | else-w-gt0 x ↦ rw (le-ltb 0 n x.if-w-gt0.false) x.items-is ] in
    let left = rw (c.shown_len-w.ensures, c.unpack.ensures) at done in
    rw (c.shown_len-w.ensures, c.unpack.ensures) (deleted-past at.invariant c.loop-at-test.true c.if-rest-eq0.false w _ left _ c.forward-at.ensures)

pub returns-after-loop-at : goal.returns-after-loop-at
returns-after-loop-at c = deleted-end c.loop-at.invariant c.loop-at-test.false

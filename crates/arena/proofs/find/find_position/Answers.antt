-- `arena::find::find_position` meets its contract. The invariant: what is left of the index, placed from where the walk stands, is the index placed from the start. Assumes nothing.
use Rattle.arena.proofs.Finds.{found-zero, found-end, found-past, found-cut}
use Rattle.arena.proofs.Steps.{start-stands, cut-more}
use Rattle.arena.proofs.Standing.{right_lt}
use Rattle.arena.proofs.Carried.{going_start}
use Rattle.arena.specs.Places.{placing}
use mathlib.Core.Path.{refl}
use Rattle.arena.proofs.find.find_position.Goals as goal

pub loop-p-init : goal.loop-p-init
loop-p-init c = rw c.start-p.ensures (going_start (placing _) (start-stands c.requires.0).stands)

pub returns-then-rest-eq0 : goal.returns-then-rest-eq0
returns-then-rest-eq0 c = found-zero c.loop-p.invariant c.if-rest-eq0.true

pub bounds-items-p : goal.bounds-items-p
bounds-items-p c = (right_lt c.loop-p.invariant.stands c.loop-p-test.true).1

pub forward-place-requires : goal.forward-place-requires
forward-place-requires c =
    let more = (cut-more c.loop-p.invariant.stands c.loop-p-test.true c.split-cut.ensures).0 in
    (more, (right_lt c.split-cut.ensures.stands more).1)

pub returns-then-rest-w : goal.returns-then-rest-w
returns-then-rest-w c =
    let w = rw (c.shown_len-w.ensures, c.unpack-it.ensures) at c.if-rest-w.true in
    found-cut c.loop-p.invariant c.loop-p-test.true c.if-rest-eq0.false w c.split-cut.ensures _ c.forward-place.ensures

pub loop-p-preserved : goal.loop-p-preserved
loop-p-preserved c =
    let w = rw (c.shown_len-w.ensures, c.unpack-it.ensures) at c.if-rest-w.false in
    rw (c.pass.ensures, c.shown_len-w.ensures, c.unpack-it.ensures) (found-past c.loop-p.invariant c.loop-p-test.true c.if-rest-eq0.false w _ refl)

pub returns-after-loop-p : goal.returns-after-loop-p
returns-after-loop-p c = found-end c.loop-p.invariant c.loop-p-test.false

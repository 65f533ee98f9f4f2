-- `carrying::turns::carry_out` meets its contract: what is left to do from the place reached gives what there was to do at first. Assumes nothing.
use Prim.Native.Nat.{ℕ, ◌+◌}
use native.Mathlib.Omega.{arith}
use mathlib.Core.Path.{sym, ap, ◌∙◌}
use Rattle.carrying.proofs.Carrying.{next-is, under-start, under_next, under-long, under-done, next-room}
use Rattle.carrying.proofs.turns.carry_out.Goals as goal

pub loop-d-init : goal.loop-d-init
loop-d-init c = under-start _ _ _ _ _ c.requires.0 c.requires.1 c.requires.2

pub step-at-requires : goal.step-at-requires
step-at-requires c =
    let on = c.loop-d.invariant in
    (on.stands, omega (arith, on.few), omega (arith, next-room on _ (next-is _ _ c.loop-d-test.true)))

pub shape_of-work-then-at-gt-ITEMS : goal.shape_of-work-then-at-gt-ITEMS
shape_of-work-then-at-gt-ITEMS c = c.step-at.ensures.stands.arena.long ∙ sym c.requires.0.arena.long

pub returns-then-at-gt-ITEMS : goal.returns-then-at-gt-ITEMS
returns-then-at-gt-ITEMS c = under-long c.loop-d.invariant _ (next-is _ _ c.loop-d-test.true) c.step-at.ensures c.if-at-gt-ITEMS.true

pub overflow_add-next : goal.overflow_add-next
overflow_add-next c = omega (arith, next-room c.loop-d.invariant _ (next-is _ _ c.loop-d-test.true), c.brought-next.ensures)

pub loop-d-preserved : goal.loop-d-preserved
loop-d-preserved c = under_next c.loop-d.invariant _ (next-is _ _ c.loop-d-test.true) c.step-at.ensures c.if-at-gt-ITEMS.false _ (ap (λ (k : ℕ). c.loop-d.next + k) c.brought-next.ensures)

pub shape_of-work : goal.shape_of-work
shape_of-work c = c.loop-d.invariant.stands.arena.long ∙ sym c.requires.0.arena.long

pub returns : goal.returns
returns c = under-done c.loop-d.invariant c.loop-d-test.false

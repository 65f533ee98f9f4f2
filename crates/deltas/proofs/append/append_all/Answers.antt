-- `deltas::append::append_all` meets its contract: what is left to put gives what there was to put at first. Assumes nothing.
use Prim.Native.Nat.{ℕ, ◌+◌}
use native.Mathlib.Omega.{arith}
use mathlib.Core.Path.{sym, ap, ◌∙◌}
use Rattle.carrying.proofs.Carrying.{next-is}
use Rattle.deltas.proofs.Appending.{putting-start, put-part, put-room, putting-next, putting-done}
use Rattle.deltas.proofs.append.append_all.Goals as goal

pub loop-d-init : goal.loop-d-init
loop-d-init c = putting-start _ _ _ _ c.requires.0 c.requires.2 c.requires.1

pub append_op-requires : goal.append_op-requires
append_op-requires c =
    let on = c.loop-d.invariant in
    (omega (arith, put-room on _ (next-is _ _ c.loop-d-test.true), on.long), put-part on _ (next-is _ _ c.loop-d-test.true))

pub overflow_add-at : goal.overflow_add-at
overflow_add-at c = omega (arith, put-room c.loop-d.invariant _ (next-is _ _ c.loop-d-test.true), c.brought-at.ensures)

pub loop-d-preserved : goal.loop-d-preserved
loop-d-preserved c = putting-next c.loop-d.invariant _ (next-is _ _ c.loop-d-test.true) _ c.append_op.ensures _ (ap (λ (k : ℕ). c.loop-d.at + k) c.brought-at.ensures)

pub shape_of-units : goal.shape_of-units
shape_of-units c = c.loop-d.invariant.long ∙ sym c.requires.0

pub returns : goal.returns
returns c = putting-done c.loop-d.invariant c.loop-d-test.false

-- `removal::tidy_until` meets its contract: what is left to tidy from here gives what there was at first. Assumes nothing.
use Prim.Native.Nat.{suc, ◌-◌, ◌<◌}
use mathlib.Core.Bool.{cond}
use mathlib.Core.Path.{◌≡◌, ap, ◌∙◌}
use native.Mathlib.Omega.{arith}
use Rattle.arena.specs.declared.Place.{Place}
use Rattle.arena.specs.Writes.{kill_mem}
use Rattle.arena.proofs.Standing.{right_lt}
use Rattle.removal.proofs.Gaps.{tidied-past}
use Rattle.removal.proofs.tidy_until.Goals as goal
use Rattle.removal.proofs.tidy_until.Goals.{then-is_idle, else-is_idle}

pub bounds-items-at : goal.bounds-items-at
bounds-items-at c = (right_lt c.loop-at.invariant.stands (omega (arith, c.loop-at-test.true))).1

pub forward-at-requires : goal.forward-at-requires
forward-at-requires c =
    let more : 0 < c.loop-at.at.todo = omega (arith, c.loop-at-test.true) in
    (more, omega (arith, (right_lt c.loop-at.invariant.stands more).1, c.if-is_idle.auto.items))

pub loop-at-preserved : goal.loop-at-preserved
loop-at-preserved c =
    let at = c.loop-at in
    let done : c.if-is_idle.items ≡ cond c.is_idle.result (kill_mem at.items at.at.right) at.items =
    elim c.if-is_idle.branch [ then-is_idle w ↦ rw w.if-is_idle.true (w.items-is ∙ w.delete.ensures) | else-is_idle w ↦ rw w.if-is_idle.false w.items-is ] in
    let less : at.at.todo - c.args.stop ≡ suc (c.forward-at.result.todo - c.args.stop) = omega (arith, c.loop-at-test.true, ap (λ (x : Place). x.todo) c.forward-at.ensures) in
    tidied-past _ _ _ at.invariant (omega (arith, c.loop-at-test.true)) _ less _ (rw c.is_idle.ensures at done) _ c.forward-at.ensures

-- `deltas::faults::fault` meets its contract: nothing is wrong so far. Assumes nothing.
use Prim.Native.Nat.{ℕ}
use native.Mathlib.Omega.{arith}
use mathlib.Core.Path.{ap, ◌∙◌}
use lib.ListN.{get_or}
use Rattle.deltas.specs.Faults.{place_after}
use Rattle.carrying.proofs.Carrying.{unread, next-is}
use Rattle.deltas.proofs.Refusals.{faultless-start, faultless-next, faultless-end, next-part, refused-here}
use Rattle.std.proofs.lemmas.Result.{err_from_is_err_and}
use Rattle.refusal.proofs.Numbered.{number-some, number-ok}
use Rattle.deltas.proofs.faults.fault.Goals as goal

pub loop-d-init : goal.loop-d-init
loop-d-init c = faultless-start _ _ _ c.requires.2

pub op_fault-requires : goal.op_fault-requires
op_fault-requires c =
    let on = c.loop-d.invariant in
    (c.requires.0, c.requires.1, omega (arith, c.requires.1, on.place), next-part on _ (next-is _ _ c.loop-d-test.true))

pub returns-in_err-op_fault : goal.returns-in_err-op_fault
returns-in_err-op_fault c =
    let p = err_from_is_err_and c.from_residual.result c.from_residual.ensures.1 in
    rw (p.1, p.2)
    (refused-here c.loop-d.invariant _ (next-is _ _ c.loop-d-test.true) _ c.in_err-op_fault.ensures (number-some _))

pub place_after-c-requires : goal.place_after-c-requires
place_after-c-requires c = omega (arith, c.requires.1, c.loop-d.invariant.place)

pub loop-d-preserved : goal.loop-d-preserved
loop-d-preserved c =
    let d = get_or c.args.ops.now c.loop-d.d-index unread in
    let at = c.place_after-c.ensures ∙ ap (λ (k : ℕ). place_after k c.loop-d.c d.op) c.requires.1 in
    faultless-next c.loop-d.invariant d (next-is _ _ c.loop-d-test.true) _ c.op_fault.ensures (number-ok c.in_ok-op_fault.was) _ at

pub returns : goal.returns
returns c = faultless-end c.loop-d.invariant c.loop-d-test.false

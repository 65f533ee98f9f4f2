-- `deltas::checks::total` meets its contract: the sum so far and what is left make the whole. Assumes nothing.
use Prim.Native.Nat.{ℕ, ◌+◌}
use native.Mathlib.Omega.{arith}
use mathlib.Core.Path.{ap, ◌∙◌}
use lib.ListN.{drop}
use Rattle.carrying.specs.Turns.{bringing}
use Rattle.carrying.proofs.Carrying.{next-is}
use Rattle.deltas.proofs.Reading.{total-next, total_done}
use Rattle.deltas.proofs.checks.total.Goals as goal

pub loop-d-init : goal.loop-d-init
loop-d-init c = (omega arith, omega arith)

pub overflow_add-sum : goal.overflow_add-sum
overflow_add-sum c = omega (arith, c.loop-d.invariant.1, c.loop-d-test.true, c.requires, c.brought.type_inv)

pub loop-d-preserved : goal.loop-d-preserved
loop-d-preserved c = (
  ap (λ (k : ℕ). c.loop-d.sum + k + bringing (drop (c.loop-d.d-index + 1) c.args.ops.now)) (c.from-sum.ensures ∙ c.brought.ensures)
      ∙ total-next c.args.ops.now c.loop-d.d-index _ (next-is _ _ c.loop-d-test.true) _ c.loop-d.invariant.0,
  omega (arith, c.loop-d.invariant.1, c.brought.type_inv, c.from-sum.ensures),
)

pub returns : goal.returns
returns c = total_done c.args.ops.now c.loop-d.d-index c.loop-d-test.false _ c.loop-d.invariant.0

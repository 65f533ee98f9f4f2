use mathlib.Core.Path.{◌≡◌}
use mathlib.Core.Bool.{true, false}
use native.Mathlib.Omega.{arith}
use lib.ListN.{length}
use Prim.Native.Nat.{◌<◌, ◌+◌}
use Rattle.std.proofs.lemmas.Grind.{common_steps}
use Rattle.lines.specs.Fields.{at_op}
use Rattle.lines.proofs.Operations.{ordering-stop, ordering-done, ordering-step}
use Rattle.lines.proofs.deltas.all_ops.Goals as goal

pub returns-then-ne : goal.returns-then-ne
returns-then-ne c = let z : at_op c.loop.d.end ≡ false = grind (arith, common_steps) in ordering-stop c.loop.invariant z

pub loop-preserved : goal.loop-preserved
loop-preserved c = let z : at_op c.loop.d.end ≡ true = grind (arith, common_steps) in ordering-step c.loop.invariant c.loop-test.true z c.one_op-d.ensures

pub returns-else-ne : goal.returns-else-ne
returns-else-ne c =
    let z : at_op c.loop.d.end ≡ true = grind (arith, common_steps) in
    let last : length c.args.rest.line.now < c.loop.counter + 1 = omega arith in
    ordering-done (ordering-step c.loop.invariant c.loop-test.true z c.one_op-d.ensures) last

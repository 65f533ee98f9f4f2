use mathlib.Core.Path.{◌≡◌}
use mathlib.Core.Bool.{true, false}
use native.Mathlib.Omega.{arith}
use lib.ListN.{length}
use Prim.Native.Nat.{◌<◌, ◌+◌}
use Rattle.std.proofs.lemmas.Grind.{common_steps}
use Rattle.lines.specs.Fields.{more}
use Rattle.lines.proofs.Gathering.{gathering-stop, gathering-done, gathering-step}
use Rattle.lines.proofs.fields.read_fields.Goals as goal

pub returns-then-ne : goal.returns-then-ne
returns-then-ne c = let z : more c.loop.f.end ≡ false = grind (arith, common_steps) in gathering-stop c.loop.invariant z

pub loop-preserved : goal.loop-preserved
loop-preserved c = let z : more c.loop.f.end ≡ true = grind (arith, common_steps) in gathering-step c.loop.invariant c.loop-test.true z c.read_field.ensures c.with_field-f.ensures

pub returns-else-ne : goal.returns-else-ne
returns-else-ne c =
    let z : more c.loop.f.end ≡ true = grind (arith, common_steps) in
    let last : length c.args.rest.line.now < c.loop.counter + 1 = omega arith in
    gathering-done (gathering-step c.loop.invariant c.loop-test.true z c.read_field.ensures c.with_field-f.ensures) last

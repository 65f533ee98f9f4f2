-- The bytes that wait lie within the buffer.
use Rattle.std.proofs.Common.{◌≤◌}
use Rattle.calls.proofs.say.say_units.Given as goal

abbrev pub invariant-loop-u : goal.invariant-loop-u
invariant-loop-u g l = l.n ≤ 4096

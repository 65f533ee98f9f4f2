-- What is read so far is a delta, which has no more operations than were read.
use Rattle.std.proofs.Common.{◌≡◌, ◌≤◌, Some}
use Rattle.ffi.specs.Deltas.{read_ops}
use Rattle.ffi.proofs.telling.read_delta.Given as goal

abbrev pub invariant-loop-i : goal.invariant-loop-i
invariant-loop-i l = record {
  read : read_ops l.i l.words ≡ Some l.delta;
  few : l.delta.count ≤ l.i;
}

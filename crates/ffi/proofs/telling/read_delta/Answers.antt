-- `ffi::telling::read_delta` meets its contract. Assumes nothing.
use Rattle.std.proofs.Common.{◌≡◌, ◌<◌, Some, None, sym, arith, ◌∙◌}
use Rattle.encoding.specs.Words.{found_at}
use Rattle.ops.specs.Ops.{pushed}
use Rattle.ffi.proofs.Readings.{pushed_count, pushed_ok, none_read, one_read}
use Rattle.ffi.proofs.telling.read_delta.Goals as goal

pub returns-in_err-op : goal.returns-in_err-op
returns-in_err-op c =
    let none : found_at c.args.words.now c.loop-i.i ≡ None = cc (c.op_at.ensures, c.in_err-op.was) in
    c.from_residual.ensures ∙ sym (none_read _ c.loop-i.i (omega arith) none)

pub returns-in_err-delta : goal.returns-in_err-delta
returns-in_err-delta c =
    let few : c.loop-i.delta.count < 256 = omega arith in
    let ok = pushed_ok c.loop-i.delta c.in_ok-op.op few c.push.result c.push.ensures in
    cc (ok, c.ok.ensures.value, c.in_err-delta.was)

pub loop-i-preserved : goal.loop-i-preserved
loop-i-preserved c =
    let few : c.loop-i.delta.count < 256 = omega arith in
    let ok = pushed_ok c.loop-i.delta c.in_ok-op.op few c.push.result c.push.ensures in
    let found : found_at c.args.words.now c.loop-i.i ≡ Some c.in_ok-op.op = cc (c.op_at.ensures, c.in_ok-op.was) in
    let delta : c.in_ok-delta.delta ≡ (pushed c.loop-i.delta c.in_ok-op.op).delta = cc (ok, c.ok.ensures.value, c.in_ok-delta.was) in
    rw delta
    (record {
      read = one_read _ c.loop-i.i c.loop-i.delta c.in_ok-op.op c.loop-i.invariant.read found;
      few = omega (arith, pushed_count c.loop-i.delta c.in_ok-op.op few);
    })

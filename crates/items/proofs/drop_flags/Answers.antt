-- `items::drop_flags` meets its contract. The invariant: the words of the part that are passed are swept. Assumes nothing.
use native.Mathlib.Omega.{arith}
use mathlib.Core.Path.{◌≡◌, refl}
use lib.ListN.{length, get_or, take}
use lib.Seq.{length-take-le}
use Rattle.items.specs.Calls.{rest_word, sweep_to}
use Rattle.items.proofs.Sweeps.{sweep-more, sweep-part}
use Rattle.items.proofs.drop_flags.Goals as goal

pub loop-w-init : goal.loop-w-init
unfolding sweep_to
loop-w-init c = refl

pub loop-w-preserved : goal.loop-w-preserved
loop-w-preserved c =
    let w : c.pack.result ≡ rest_word (get_or c.loop-w.w-items c.loop-w.w-index 0) = rw (c.pack.ensures, c.unpack.ensures) in
    sweep-more _ _ _ _ _ c.loop-w.invariant w

pub returns : goal.returns
returns c =
    let a = c.args in
    let m = a.items.now in
    let long : length (take a.n m) ≡ a.n = length-take-le a.n m c.requires in
    let end : c.loop-w.w-index ≡ a.n = omega (arith, long) in
    rw (c.loop-w.invariant, end) (sweep-part rest_word m a.n a.n (omega arith) c.requires)

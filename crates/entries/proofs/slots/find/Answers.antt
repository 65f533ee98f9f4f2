-- `entries::slots::find` meets its contract. The invariant: the place in the slots that are left, with those that are passed, is the place in all. Assumes nothing.
use native.Mathlib.Omega.{arith}
use mathlib.Core.Path.{sym, ◌∙◌}
use Rattle.entries.specs.Entry.{seek}
use Rattle.entries.proofs.Entries.{rest_end, seek_hit, seek-miss}
use Rattle.entries.proofs.slots.find.Goals as goal

pub returns-then-same : goal.returns-then-same
returns-then-same c =
    let is = sym c.same.ensures ∙ c.if-same.true in
    omega (arith, seek_hit _ _ _ _ _ c.loop-i-test.true is, c.loop-i.invariant)

pub loop-i-preserved : goal.loop-i-preserved
loop-i-preserved c =
    let is = sym c.same.ensures ∙ c.if-same.false in
    omega (arith, seek-miss _ _ _ _ _ c.loop-i-test.true is, c.loop-i.invariant)

pub returns : goal.returns
unfolding seek
returns c =
    let inv = rw (rest_end _ _ _ _ c.loop-i-test.false) at c.loop-i.invariant in
    omega (arith, inv)

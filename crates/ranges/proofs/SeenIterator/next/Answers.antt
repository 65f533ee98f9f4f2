-- `ranges::SeenIterator::next` meets its contract. Assumes nothing.
use Prim.Native.Nat.{◌<◌}
use native.Mathlib.Omega.{arith}
use mathlib.Core.Path.{ap, ◌∙◌}
use lib.ListN.{length}
use Rattle.ranges.proofs.Texts.{reads-below, reads-shows, reads-next, left-here, left-none, left-next}
use Rattle.ranges.proofs.SeenIterator.next.Goals as goal

pub bounds-self-self : goal.bounds-self-self
bounds-self-self c = reads-below _ _ _ _ (omega (arith, c.if-self-eq0.false)) c.loop-self.invariant.reads

pub returns-then-self-eq0-clause-steps : goal.returns-then-self-eq0-clause-steps
returns-then-self-eq0-clause-steps c =
    let none = left-none _ _ _ _ _ _ _ c.loop-self-test.true c.if-self-eq0.true in
    (c.loop-self.invariant.same ∙ none, none)

pub loop-self-preserved : goal.loop-self-preserved
loop-self-preserved c =
    let some : 0 < c.loop-self.self.todo = omega (arith, c.if-self-eq0.false) in
    let reads = c.loop-self.invariant.reads in
    rw (c.from-self.ensures, c.shown_len.ensures, c.unpack-it.ensures)
    (record {
      reads = reads-next _ _ _ _ some reads;
      shows = reads-shows _ _ _ _ some reads;
      same = c.loop-self.invariant.same ∙ left-next _ _ _ _ _ _ _ c.loop-self-test.true some;
    })

pub unit_in-unit-requires-clause-lies_in : goal.unit_in-unit-requires-clause-lies_in
unit_in-unit-requires-clause-lies_in c = c.loop-self.invariant.shows.0

pub unit_in-unit-requires-clause-k_bound : goal.unit_in-unit-requires-clause-k_bound
unit_in-unit-requires-clause-k_bound c = omega (arith, c.loop-self-test.false, c.loop-self.invariant.shows.1)

pub returns : goal.returns
returns c =
    rw c.unit_in-unit.ensures
    (let reads = c.loop-self.invariant.reads in
    let shows = c.loop-self.invariant.shows in
    let steps = c.loop-self.invariant.same ∙ left-here _ _ _ _ _ _ _ c.loop-self-test.false in
    record { steps = steps; goes = record { on = λ _. ((reads, shows), tt, omega (arith, ap length steps)); keeps = (reads, shows); rests = λ _. tt } })

-- `cursors::walk::RunsIterator::next` meets its contract. Assumes nothing.
use Prim.Native.Nat.{◌+◌, ◌-◌, ◌<◌}
use native.Mathlib.Omega.{arith}
use mathlib.Core.Path.{◌≡◌, refl, ap}
use Rattle.layout.specs.Word.{what_of}
use Rattle.rules.specs.Sheet.{embed}
use Rattle.cursors.proofs.Spots.{here, next, Stepped, steps, next-none, next-embed, embed-sum, behind-embed, next-text}
use Rattle.cursors.proofs.walk.RunsIterator.next.Goals as goal
use Rattle.cursors.proofs.walk.RunsIterator.next.Goals.{Else-from-eq0, In-Embed}

-- the place stands, and there is an item
some : (c : Else-from-eq0) → 0 < c.skip-from.result.todo
some c = omega (arith, c.if-from-eq0.false)

stepped : (c : Else-from-eq0) → Stepped c.args.self.now.items.now c.skip-from.result
stepped c = steps _ _ c.skip-from.ensures.stands (some c)

pub returns-then-from-eq0-clause-steps : goal.returns-then-from-eq0-clause-steps
returns-then-from-eq0-clause-steps c = next-none _ _ _ _ c.skip-from.ensures c.if-from-eq0.true

pub bounds-self-from : goal.bounds-self-from
bounds-self-from c = (stepped (goal.at.bounds-self-from c).Else-from-eq0).below

-- the item is an embed
some-embed : (c : In-Embed) → 0 < c.skip-from.result.todo
some-embed c = omega (arith, c.if-from-eq0.false)

is-embed : (c : In-Embed) → (here c.args.self.now.items.now c.skip-from.result).what ≡ embed c.in-Embed.number
is-embed c = rw c.unpack-it.ensures at (ap what_of c.in-Embed.is)

pub overflow_add-self : goal.overflow_add-self
overflow_add-self c =
    let at = (goal.at.overflow_add-self c).In-Embed in
    omega (arith, embed-sum c.args.self.now.joined _ _ _ at.skip-from.ensures (some-embed at) _ (is-embed at))

-- the place that is stored is the one behind it
behind : (c : In-Embed)
    → record { at = c.unpack-it.result.next; todo = c.skip-from.result.todo - 1; passed = c.skip-from.result.passed + 1; force = c.skip-from.result.force }
    ≡ next c.args.self.now.items.now c.skip-from.result
behind c = rw c.unpack-it.ensures (behind-embed c.args.self.now.joined _ _ _ c.skip-from.ensures (some-embed c) _ (is-embed c))

pub returns-in-Embed-clause-steps : goal.returns-in-Embed-clause-steps
returns-in-Embed-clause-steps c =
    let at = (goal.at.returns-in-Embed-clause-steps c).In-Embed in
    rw (c.text_run.ensures, behind at) (next-embed _ _ _ _ c.skip-from.ensures (some-embed at) _ (is-embed at))

-- a run takes an item at least
pub returns-in-Embed-clause-goes : goal.returns-in-Embed-clause-goes
returns-in-Embed-clause-goes c =
    let at = (goal.at.returns-in-Embed-clause-goes c).In-Embed in
    let on = stepped (goal.at.returns-in-Embed-clause-goes c).Else-from-eq0 in
    rw (behind at) (record { on = λ _. (on.stands, tt, omega (arith, some-embed at)); keeps = on.stands; rests = λ _. tt })

pub returns-in-Embed-clause-stays : goal.returns-in-Embed-clause-stays
returns-in-Embed-clause-stays c =
    let at = (goal.at.returns-in-Embed-clause-stays c).In-Embed in
    let on = stepped (goal.at.returns-in-Embed-clause-stays c).Else-from-eq0 in
    rw (behind at) (record { ready = on.stands; items = refl; joined = refl; fewer = omega (arith, c.skip-from.ensures.fewer) })

pub past-requires : goal.past-requires
past-requires c =
    let here = (goal.at.past-requires c).Else-from-eq0 in
    record { todo_nonzero = some here; content_bound = rw c.unpack-it.ensures (stepped here).sum }

pub gather-end-requires : goal.gather-end-requires
gather-end-requires c = rw (c.past.ensures, c.unpack-it.ensures) (stepped (goal.at.gather-end-requires c).Else-from-eq0).stands

pub returns : goal.returns
returns c =
    let here = (goal.at.returns c).Else-from-eq0 in
    let unpacked = c.unpack-it.ensures in
    let ends = c.gather-end.ensures in
    let gathered = rw (c.past.ensures, unpacked) at ends in
    record {
      steps = rw c.text_run-2.ensures (next-text _ _ _ _ c.skip-from.ensures (some here) _ unpacked c.in_default.not-Embed _ gathered);
      goes = record { on = λ _. (ends.stands, tt, omega (arith, some here)); keeps = ends.stands; rests = λ _. tt };
      stays = record { ready = ends.stands; items = refl; joined = refl; fewer = omega (arith, c.skip-from.ensures.fewer, gathered.fewer) };
    }

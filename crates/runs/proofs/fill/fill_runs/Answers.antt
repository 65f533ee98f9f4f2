-- `runs::fill::fill_runs` meets its contract. Assumes nothing.
use Rattle.std.proofs.Common.{◌≡◌, ◌<◌, ◌∷◌, ◌∙◌, length, drop, refl, sym, inl, arith}
use Rattle.std.specs.Iterator.Adapters.{enumerate_source, enumerate_count, take_source}
use Rattle.cursors.specs.Cursors.{left}
use Rattle.runs.specs.Answers.{records_in}
use Rattle.runs.proofs.Fronts.{drop-some, drop-next, written-more, all-taken}
use Rattle.runs.proofs.Tallies.{start-stands, start-few, start-records, plan-grants}
use Rattle.runs.proofs.fill.fill_runs.Goals as goal
use Rattle.runs.proofs.fill.fill_runs.Goals.{In-Some}

pub loop-i-init : goal.loop-i-init
loop-i-init c =
    let a = c.args in
    let ok = (plan-grants a.h a.items.now a.units.now a.joined (length a.out.now) _ c.in_ok-count.ensures).0 in
    let from = c.enumerate-i-items.ensures in
    let take = c.take.ensures in
    let new = c.new.ensures in
    rw (c.into_iter-i-iterator.ensures.into_iter_gives, from.source, from.count, take.source, take.count, new.items, new.joined, new.spot)
    (record {
      can = (start-stands a.h a.items.now a.units.now ok, tt, inl (omega (arith, start-few a.h a.items.now a.units.now ok)));
      finite = tt;
      within = omega arith;
      left = start-records a.joined a.h a.items.now;
      out = refl;
    })

-- the run is the first of those that are left
first : (c : In-Some) → drop (enumerate_count c.loop-i.i-iterator) (records_in c.args.h c.args.items.now c.args.joined) ≡ c.in-Some.run' ∷ left (take_source (enumerate_source c.next.new.self))
first c = sym c.loop-i.invariant.left ∙ c.in-Some.ensures.steps.0.0

-- there is room for it
room : (c : In-Some) → enumerate_count c.loop-i.i-iterator < length c.args.out.now
room c =
    let a = c.args in
    let ok = plan-grants a.h a.items.now a.units.now a.joined (length a.out.now) _ c.in_ok-count.ensures in
    omega (arith, ok.2, c.loop-i.invariant.within, c.in-Some.ensures.steps.0.1)

pub bounds-out-i : goal.bounds-out-i
bounds-out-i c = omega (arith, c.in-Some.ensures.steps.1, room (goal.at.bounds-out-i c).In-Some)

pub loop-i-preserved : goal.loop-i-preserved
loop-i-preserved c =
    let a = c.args in
    let rs = records_in a.h a.items.now a.joined in
    let n = enumerate_count c.loop-i.i-iterator in
    let here = (goal.at.loop-i-preserved c).In-Some in
    let some = drop-some rs n _ _ (first here) in
    let step = c.in-Some.ensures.steps in
    record {
      can = c.in-Some.ensures.goes.keeps;
      finite = tt;
      within = omega (arith, c.loop-i.invariant.within, step.0.1, step.2);
      left = rw step.2 (drop-next rs n _ _ (first here));
      out = rw (step.1, step.2, c.loop-i.invariant.out) (written-more rs a.out.now n _ _ some (room here) (first here));
    }

pub returns : goal.returns
returns c =
    let a = c.args in
    let rs = records_in a.h a.items.now a.joined in
    let ok = plan-grants a.h a.items.now a.units.now a.joined (length a.out.now) _ c.in_ok-count.ensures in
    let n = all-taken (enumerate_count c.loop-i.i-iterator) _ c.in_ok-count.count rs c.loop-i.invariant.within (omega (arith, ok.1)) (λ some. sym c.loop-i.invariant.left ∙ (c.in-None.ensures.steps.0 some).0) in
    record { answers = c.in_ok-count.ensures; leaves = rw n c.loop-i.invariant.out }

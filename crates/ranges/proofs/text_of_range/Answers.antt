-- `ranges::text_of_range` meets its contract. Assumes nothing.
use Rattle.std.proofs.Common.{◌≡◌, ◌<◌, ◌≤◌, ◌∷◌, ◌∙◌, length, drop, refl, sym, inl, arith}
use Rattle.std.specs.Iterator.Adapters.{enumerate_source, enumerate_count, take_source}
use Rattle.ranges.specs.Texts.{showing, left}
use Rattle.runs.proofs.Fronts.{drop-some, drop-next, written-more, all-taken}
use Rattle.ranges.proofs.Texts.{left-first}
use Rattle.ranges.proofs.Ranges.{reads-start, text-within, front-text, plan-grants}
use Rattle.ranges.proofs.text_of_range.Goals as goal
use Rattle.ranges.proofs.text_of_range.Goals.{In-Some}

pub loop-i-init : goal.loop-i-init
loop-i-init c =
    let a = c.args in
    let ok = (plan-grants a.h a.items.now a.units.now a.index a.len (length a.out.now) _ c.in_ok-count.ensures).0 in
    let fits = (plan-grants a.h a.items.now a.units.now a.index a.len (length a.out.now) _ c.in_ok-count.ensures).2 in
    let from = c.enumerate-i-items.ensures in
    let take = c.take.ensures in
    rw (c.into_iter-i-iterator.ensures.into_iter_gives, from.source, from.count, take.source, take.count, c.from.ensures)
    (record {
      can = ((reads-start a.h a.items.now a.units.now ok, (tt, omega arith)), tt, inl (omega (arith, fits)));
      finite = tt;
      within = omega arith;
      left = left-first _ _ _ _ _ _;
      out = refl;
    })

-- the unit is the first of those that are left
first : (c : In-Some) → drop (enumerate_count c.loop-i.i-iterator) (showing c.args.items.now c.args.units.now c.args.h.first c.args.h.items c.args.index) ≡ c.in-Some.unit ∷ left (take_source (enumerate_source c.next.new.self))
first c = sym c.loop-i.invariant.left ∙ c.in-Some.ensures.steps.0.0

-- there is room for it
room : (c : In-Some) → enumerate_count c.loop-i.i-iterator < length c.args.out.now
room c =
    let a = c.args in
    let fits = (plan-grants a.h a.items.now a.units.now a.index a.len (length a.out.now) _ c.in_ok-count.ensures).2 in
    omega (arith, fits, c.loop-i.invariant.within, c.in-Some.ensures.steps.0.1)

pub bounds-out-i : goal.bounds-out-i
bounds-out-i c = omega (arith, c.in-Some.ensures.steps.1, room (goal.at.bounds-out-i c).In-Some)

pub loop-i-preserved : goal.loop-i-preserved
loop-i-preserved c =
    let a = c.args in
    let rs = showing a.items.now a.units.now a.h.first a.h.items a.index in
    let n = enumerate_count c.loop-i.i-iterator in
    let here = (goal.at.loop-i-preserved c).In-Some in
    let some = drop-some rs n _ _ (first here) in
    let step = c.in-Some.ensures.steps in
    record {
      can = c.in-Some.ensures.goes.keeps;
      finite = tt;
      within = omega (arith, c.loop-i.invariant.within, step.0.1, step.2);
      left = rw step.2 (drop-next rs n _ _ (first here));
      out = rw (step.1, step.2, c.loop-i.invariant.out) (written-more rs a.out.now n _ _ some (room here) (first here));
    }

pub returns : goal.returns
returns c =
    let a = c.args in
    let shown = showing a.items.now a.units.now a.h.first a.h.items a.index in
    let i = enumerate_count c.loop-i.i-iterator in
    let ok = plan-grants a.h a.items.now a.units.now a.index a.len (length a.out.now) _ c.in_ok-count.ensures in
    let within : c.in_ok-count.count ≤ length shown = omega (arith, ok.1, text-within a.h a.items.now a.units.now a.index a.len) in
    let n = all-taken i _ c.in_ok-count.count shown c.loop-i.invariant.within within (λ some. sym c.loop-i.invariant.left ∙ (c.in-None.ensures.steps.0 some).0) in
    record {
      answers = c.in_ok-count.ensures;
      leaves = rw (← front-text a.h a.items.now a.units.now a.index a.len c.in_ok-count.count a.out.now ok.1, n) c.loop-i.invariant.out;
    }

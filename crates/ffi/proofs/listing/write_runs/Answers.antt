-- `ffi::listing::write_runs` meets its contract. Assumes nothing.
use Rattle.std.proofs.Common.{◌+◌, ◌≤◌, ◌∙◌, List, length, map, sym, ap, inl, arith}
use Rattle.std.proofs.Math.Nat.{zero-add}
use Rattle.std.proofs.Math.ListN.{length-map}
use Rattle.std.proofs.Math.Seq.{sets-eq, take-length}
use Rattle.std.proofs.lemmas.List.Edits.{sets}
use Rattle.layout.proofs.Soundness.{sound-parts}
use Rattle.cursors.specs.declared.run.Run.{Run}
use Rattle.runs.specs.Answers.{records_in}
use Rattle.runs.proofs.Counts.{records-few}
use Rattle.runs.proofs.Fronts.{none-left}
use Rattle.runs.proofs.Tallies.{start-stands, start-few, start-records, plan-grants}
use Rattle.events.specs.Given.{at_front}
use Rattle.events.proofs.Tellings.{length-words}
use Rattle.ffi.specs.Answers.{run_op, runs_words}
use Rattle.ffi.proofs.listing.write_runs.Goals as goal

pub loop-i-init : goal.loop-i-init
loop-i-init c =
    let a = c.args in
    let ok = (plan-grants a.h a.items.now a.units.now a.joined _ _ c.in_ok-count.ensures).0 in
    let from = c.enumerate-i-items.ensures in
    let take = c.take.ensures in
    let new = c.new.ensures in
    let all = start-records a.joined a.h a.items.now in
    rw (c.into_iter-i-iterator.ensures.into_iter_gives, from.source, from.count, take.source, take.count, new.items, new.joined, new.spot)
    (record {
      can = (start-stands a.h a.items.now a.units.now ok, tt, inl (omega (arith, start-few a.h a.items.now a.units.now ok)));
      finite = tt;
      within = omega arith;
      rest = omega (arith, ap length all);
      whole = ap (λ (rs : List Run). sets a.ops.now 0 (runs_words rs)) all;
    })

-- no sheet has more runs than items
pub overflow_cast-i : goal.overflow_cast-i
overflow_cast-i c =
    let a = c.args in
    let ok = plan-grants a.h a.items.now a.units.now a.joined _ _ c.in_ok-count.ensures in
    let step = c.in-Some.ensures.steps in
    omega (arith, ok.1, records-few a.h a.items.now a.joined, (sound-parts a.h a.items.now a.units.now ok.0).items, c.loop-i.invariant.within, step.0.1, step.1)

pub write_op-requires : goal.write_op-requires
write_op-requires c =
    let a = c.args in
    let ok = plan-grants a.h a.items.now a.units.now a.joined _ _ c.in_ok-count.ensures in
    let step = c.in-Some.ensures.steps in
    omega (arith, ok.1, ok.2, step.1, ap length step.0.0)

pub returns-clause-words : goal.returns-clause-words
returns-clause-words c =
    let a = c.args in
    let rs = records_in a.h a.items.now a.joined in
    let ok = plan-grants a.h a.items.now a.units.now a.joined _ _ c.in_ok-count.ensures in
    let fits : 0 + length (runs_words rs) ≤ length a.ops.now = omega (arith, ok.1, ok.2, length-words (map run_op rs), length-map rs run_op) in
    let here = c.loop-i.invariant in
    rw (none-left _ _ c.in_ok-count.count _ here.within (omega (arith, here.rest, ok.1)) (λ some. (c.in-None.ensures.steps.0 some).0)) at here.whole
    ∙ simp zero-add at (sets-eq (runs_words rs) a.ops.now 0 fits)
    ∙ ap (λ (r : List Run). at_front (runs_words r) a.ops.now) (sym (rw ok.1 (take-length rs)))

-- `ranges::plan` meets its contract. Assumes nothing.
use Rattle.std.proofs.Common.{◌≡◌, ◌-◌, true}
use Rattle.std.specs.Prelude.{min}
use Rattle.std.proofs.lemmas.Result.{err_from_is_err_and}
use Rattle.rules.specs.Reading.{visible}
use Rattle.layout.specs.Memory.{list_of, sound_of}
use Rattle.ranges.proofs.Ranges.{plan-broken, plan-sound, plan-pair, plan-short, plan-fits}
use Rattle.ranges.proofs.plan.Goals as goal
use Rattle.ranges.proofs.plan.Goals.{In_ok-all, After-min-count}

pub returns-in_err-all : goal.returns-in_err-all
returns-in_err-all c =
    let p = err_from_is_err_and c.from_residual.result c.from_residual.ensures.1 in
    rw (p.1, p.2) (plan-broken _ _ _ _ _ _ _ c.in_err-all.ensures)

-- the sheet is sound, and how long it is
sound : (c : In_ok-all) → (sound_of c.args.h c.args.items.now c.args.units.now ≡ true) × (c.in_ok-all.all ≡ visible (list_of c.args.h c.args.items.now))
sound c = plan-sound _ _ c.args.units.now c.args.index c.args.len c.args.room _ c.in_ok-all.ensures

pub range_fault-requires : goal.range_fault-requires
range_fault-requires c = (sound (goal.at.range_fault-requires c).In_ok-all).0

pub returns-in_err-range_fault : goal.returns-in_err-range_fault
returns-in_err-range_fault c =
    let ok = sound (goal.at.returns-in_err-range_fault c).In_ok-all in
    let p = err_from_is_err_and c.from_residual-in_err-range_fault.result c.from_residual-in_err-range_fault.ensures.1 in
    rw (p.1, p.2) (plan-pair _ _ _ _ _ _ ok.0 _ c.in_err-range_fault.ensures)

-- how many units lie in the range
long : (c : After-min-count) → c.in_ok-all.all ≡ visible (list_of c.args.h c.args.items.now)
    → c.min-count.result ≡ min c.args.len (visible (list_of c.args.h c.args.items.now) - c.args.index)
long c all = rw (c.min-count.ensures, c.saturating_sub.ensures, all)

pub returns-then-count-room : goal.returns-then-count-room
returns-then-count-room c =
    let ok = sound (goal.at.returns-then-count-room c).In_ok-all in
    plan-short _ _ _ _ _ _ ok.0 c.in_ok-range_fault.ensures _ (long (goal.at.returns-then-count-room c).After-min-count ok.1) c.if-count-room.true

pub returns : goal.returns
returns c =
    let ok = sound (goal.at.returns c).In_ok-all in
    plan-fits _ _ _ _ _ _ ok.0 c.in_ok-range_fault.ensures _ (long (goal.at.returns c).After-min-count ok.1) c.if-count-room.false

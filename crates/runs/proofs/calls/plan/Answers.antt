-- `runs::calls::plan` meets its contract. Assumes nothing.
use Rattle.std.proofs.lemmas.Result.{err_from_is_err_and}
use Rattle.runs.proofs.Tallies.{plan-err, plan-over, plan-fits}
use Rattle.runs.proofs.calls.plan.Goals as goal

pub returns-in_err-count : goal.returns-in_err-count
returns-in_err-count c =
    let p = err_from_is_err_and c.from_residual.result c.from_residual.ensures.1 in
    rw (p.1, p.2) (plan-err _ _ _ _ _ _ c.in_err-count.ensures)

pub returns-then-count-room : goal.returns-then-count-room
returns-then-count-room c = plan-over _ _ _ _ _ _ c.in_ok-count.ensures c.if-count-room.true

pub returns : goal.returns
returns c = plan-fits _ _ _ _ _ _ c.in_ok-count.ensures c.if-count-room.false

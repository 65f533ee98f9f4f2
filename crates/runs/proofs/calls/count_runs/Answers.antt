-- `runs::calls::count_runs` meets its contract. Assumes nothing.
use Rattle.std.proofs.lemmas.Iterator.Consumers.{YieldsList-from_first, count_from_yields_List}
use Rattle.std.proofs.lemmas.Result.{err_from_is_err_and}
use Rattle.cursors.specs.Cursors.{left}
use Rattle.runs.proofs.Tallies.{count-is, count-broken}
use Rattle.runs.proofs.calls.count_runs.Goals as goal

pub returns-in_err-runs : goal.returns-in_err-runs
returns-in_err-runs c =
    let p = err_from_is_err_and c.from_residual.result c.from_residual.ensures.1 in
    rw (p.1, p.2, c.in_err-runs.ensures.1) (count-broken _ _ _ _ c.in_err-runs.ensures.0)

pub count-requires-clause-can : goal.count-requires-clause-can
count-requires-clause-can c = c.in_ok-runs.ensures.1

pub returns : goal.returns
returns c =
    let begun = c.in_ok-runs.ensures in
    count-is _ _ _ _ begun.0 _ (count_from_yields_List _ _ c.count.ensures.ran (YieldsList-from_first (λ x. x) left _ begun.2))

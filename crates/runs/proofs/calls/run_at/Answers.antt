-- `runs::calls::run_at` meets its contract. Assumes nothing.
use mathlib.Core.Path.{sym, ◌∙◌}
use Rattle.std.proofs.lemmas.Iterator.Adapters.{option_map_id}
use Rattle.std.proofs.lemmas.Iterator.Consumers.{YieldsList-from_first, nth_from_yields_List}
use Rattle.std.proofs.lemmas.Result.{err_from_is_err_and}
use Rattle.cursors.specs.Cursors.{left}
use Rattle.runs.proofs.Tallies.{run_is, run-broken}
use Rattle.runs.proofs.calls.run_at.Goals as goal

pub returns-in_err-runs : goal.returns-in_err-runs
returns-in_err-runs c =
    let p = err_from_is_err_and c.from_residual.result c.from_residual.ensures.1 in
    rw (p.1, p.2, c.in_err-runs.ensures.1) (run-broken _ _ _ _ c.in_err-runs.ensures.0 _)

pub nth-requires : goal.nth-requires
nth-requires c = c.in_ok-runs.ensures.1

pub returns : goal.returns
returns c =
    let begun = c.in_ok-runs.ensures in
    run_is _ _ _ _ begun.0 _ _ (sym (option_map_id _) ∙ nth_from_yields_List _ c.nth.new.self _ c.nth.ensures.ran (YieldsList-from_first (λ x. x) left _ begun.2))

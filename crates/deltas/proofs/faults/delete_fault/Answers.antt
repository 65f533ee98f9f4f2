-- `deltas::faults::delete_fault` meets its contract. Assumes nothing.
use Rattle.std.proofs.lemmas.Result.{err_from_is_err_and}
use Rattle.refusal.proofs.Numbered.{number-some}
use Rattle.rules.specs.Calls.{visible_units}
use Rattle.layout.specs.Memory.{list_of}
use Rattle.deltas.proofs.Refusals.{delete-pair, delete-short, delete-fine}
use Rattle.deltas.proofs.faults.delete_fault.Goals as goal

pub returns-in_err-retain_fault : goal.returns-in_err-retain_fault
returns-in_err-retain_fault c =
    let p = err_from_is_err_and c.from_residual.result c.from_residual.ensures.1 in
    let text = visible_units c.args.used.now (list_of c.args.h c.args.items.now) in
    rw (p.1, p.2) (delete-pair text c.args.len c.args.c c.args.n c.in_err-retain_fault.ensures (number-some _))

pub returns-then-len-c : goal.returns-then-len-c
returns-then-len-c c = delete-short _ c.args.len c.args.c c.args.n c.in_ok-retain_fault.ensures c.requires.1 c.if-len-c.true

pub returns : goal.returns
returns c = delete-fine _ c.args.len c.args.c c.args.n c.in_ok-retain_fault.ensures c.requires.1 c.if-len-c.false

-- `runs::calls::runs` meets its contract. Assumes nothing.
use mathlib.Core.Path.{sym, ◌∙◌}
use Rattle.runs.proofs.Tallies.{start-stands, start-records}
use Rattle.runs.proofs.calls.runs.Goals as goal

pub returns : goal.returns
returns c =
    let ok = sym c.sound.ensures ∙ c.if-not-sound.false in
    let new = c.new.ensures in
    rw (new.items, new.joined, new.spot) (ok, start-stands c.args.h c.args.items.now c.args.units.now ok, start-records c.args.joined c.args.h c.args.items.now)

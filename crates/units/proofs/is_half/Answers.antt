-- `units::is_half` meets its contract. Assumes nothing.
use Rattle.units.proofs.Halves.{or-first, or-second}
use Rattle.units.proofs.is_half.Goals as goal

pub returns-then-is_high : goal.returns-then-is_high
returns-then-is_high c = or-first _ _ _ c.is_high.ensures c.if-is_high.true

pub returns-else-is_high : goal.returns-else-is_high
returns-else-is_high c = or-second _ _ _ _ c.is_high.ensures c.if-is_high.false c.is_low.ensures

-- `units::Kind::from` meets its contract: each arm's range is that of its kind. Assumes nothing.
use native.Mathlib.Omega.{arith}
use mathlib.Core.Path.{sym}
use Rattle.units.proofs.Halves.{high_in, low_in, plain-below, plain_from, kind-high, kind-low, kind-plain}
use Rattle.units.proofs.KindFromU16.from.Goals as goal

pub returns-in-55296-to-56319 : goal.returns-in-55296-to-56319
returns-in-55296-to-56319 c = let u = c.args.unit in sym (kind-high u (high_in u (omega arith) (omega arith)))

pub returns-in-56320-to-57343 : goal.returns-in-56320-to-57343
returns-in-56320-to-57343 c = let u = c.args.unit in sym (kind-low u (low_in u (omega arith) (omega arith)))

pub returns-in_default : goal.returns-in_default
returns-in_default c = let u = c.args.unit in sym (kind-plain u (plain-below u (omega arith)))

pub returns-in_default-2 : goal.returns-in_default-2
returns-in_default-2 c = let u = c.args.unit in sym (kind-plain u (plain_from u (omega arith)))

use mathlib.Core.Path.{◌≡◌}
use lib.ListN.{drop}
use Rattle.units.specs.Surrogates.{paired_from, paired}
use Rattle.units.proofs.is_whole.Given as goal

abbrev pub invariant-loop-unit : goal.invariant-loop-unit
invariant-loop-unit l = (paired_from l.held (drop l.unit-index l.units) ≡ paired l.units)

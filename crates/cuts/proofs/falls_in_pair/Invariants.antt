use mathlib.Core.Path.{◌≡◌}
use mathlib.Core.List.{map}
use lib.ListN.{length}
use Rattle.rules.specs.Sound.{AllFit}
use Rattle.layout.specs.Chain.{chain}
use Rattle.layout.specs.Steps.{rest, as_listed}
use Rattle.cuts.specs.Cuts.{cut_at}
use Rattle.cuts.proofs.falls_in_pair.Given as goal

abbrev pub invariant-loop-it : goal.invariant-loop-it
invariant-loop-it l =
    (AllFit (length l.used) (map as_listed (rest l.it-iterator)))
    × (cut_at l.used l.rest (map as_listed (rest l.it-iterator)) ≡ cut_at l.used l.index (chain l.fn.h.items l.items l.fn.h.first))

use Prim.Native.Nat.{◌≤◌, ◌+◌, ◌-◌}
use mathlib.Core.Path.{◌≡◌}
use Rattle.rules.specs.Reading.{visible}
use Rattle.layout.specs.Chain.{chain}
use Rattle.layout.proofs.Soundness.{rest_ok}
use Rattle.soundness.proofs.walk.Given as goal

abbrev pub invariant-loop : goal.invariant-loop
invariant-loop l =
    (l.sum ≤ l.h.units)
    × (rest_ok l.h.items l.h.units l.items l.texts.units.now (l.h.items - l.counter) l.at l.sum ≡ rest_ok l.h.items l.h.units l.items l.texts.units.now l.h.items l.initial.at 0)
    × (l.len ≤ l.sum + l.counter)
    × (l.len + visible (chain (l.h.items - l.counter) l.items l.at) ≡ visible (chain l.h.items l.items l.initial.at))

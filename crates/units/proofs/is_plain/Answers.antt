-- `units::is_plain` meets its contract. The invariant: what is left to look at decides, unless a half was met. Assumes nothing.
use mathlib.Core.Path.{sym, ◌∙◌}
use Rattle.units.proofs.Plain.{looked-half, looked-plain, looked-all}
use Rattle.units.proofs.is_plain.Goals as goal
use Rattle.units.proofs.is_plain.Goals.{then-is_half, else-is_half}

pub loop-unit-preserved : goal.loop-unit-preserved
loop-unit-preserved c =
    let us = c.args.units.now in
    let half = sym c.is_half.ensures in
    let more = c.loop-unit-test.true in
    let at = c.loop-unit in
    elim c.if-is_half.branch [
      | then-is_half w ↦ looked-half us at.unit-index at.plain at.invariant more _ (half ∙ w.if-is_half.true) w.plain-is
      | else-is_half w ↦ looked-plain us at.unit-index at.plain at.invariant more _ (half ∙ w.if-is_half.false) w.plain-is
    ]

pub returns : goal.returns
returns c = looked-all _ _ _ c.loop-unit.invariant c.loop-unit-test.false

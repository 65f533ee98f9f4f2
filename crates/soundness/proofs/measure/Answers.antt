-- `soundness::measure` meets its contract. Assumes nothing.
use Rattle.layout.proofs.Soundness.{sound-short, sound-narrow, sound-many, sound-long}
use Rattle.soundness.proofs.Measures.{measured-broken}
use Rattle.soundness.proofs.measure.Goals as goal
use Rattle.soundness.proofs.measure.Goals.{then-items-ne2048-via-then-items-ne2048, then-items-ne2048-via-else-items-ne2048+then-units-ne16384}
use Rattle.soundness.proofs.measure.Goals.{then-h-gt-ITEMS-via-then-h-gt-ITEMS, then-h-gt-ITEMS-via-else-h-gt-ITEMS+then-h-gt-UNITS}

pub returns-then-items-ne2048 : goal.returns-then-items-ne2048
returns-then-items-ne2048 c =
    elim c.then-items-ne2048.branch [
      | then-items-ne2048-via-then-items-ne2048 w ↦ measured-broken _ _ _ (sound-short _ _ _ w.if-items-ne2048.true)
      | then-items-ne2048-via-else-items-ne2048+then-units-ne16384 w ↦ measured-broken _ _ _ (sound-narrow _ _ _ w.if-units-ne16384.true)
    ]

pub returns-then-h-gt-ITEMS : goal.returns-then-h-gt-ITEMS
returns-then-h-gt-ITEMS c =
    elim c.then-h-gt-ITEMS.branch [
      | then-h-gt-ITEMS-via-then-h-gt-ITEMS w ↦ measured-broken _ _ _ (sound-many _ _ _ w.if-h-gt-ITEMS.true)
      | then-h-gt-ITEMS-via-else-h-gt-ITEMS+then-h-gt-UNITS w ↦ measured-broken _ _ _ (sound-long _ _ _ w.if-h-gt-UNITS.true)
    ]

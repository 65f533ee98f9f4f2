-- `soundness::sound` meets its contract. Assumes nothing.
use mathlib.Core.Path.{◌∙◌}
use Rattle.soundness.proofs.Measures.{told-sound}
use Rattle.soundness.proofs.sound.Goals as goal

pub returns : goal.returns
returns c = c.is_some.ensures ∙ told-sound _ _ _ _ c.measure.ensures

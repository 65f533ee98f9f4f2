-- `attrs::Attrs::differing` meets its contract.
use mathlib.Core.Path.{ap, ◌∙◌}
use Rattle.attrs.specs.Packed.{packed}
use Rattle.attrs.proofs.Changes.{changed-opened}
use Rattle.attrs.proofs.Attrs.differing.Goals as goal

pub returns : goal.returns
returns c = c.changed.ensures ∙ ap packed (changed-opened _ _)

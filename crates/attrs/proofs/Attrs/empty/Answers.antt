-- `attrs::Attrs::empty` meets its contract.
use mathlib.Core.Path.{refl}
use Rattle.attrs.specs.Packed.{packed, make, mask_of, values_of}
use Rattle.attrs.proofs.Attrs.empty.Goals as goal

pub returns : goal.returns
unfolding packed make mask_of values_of
returns c = refl

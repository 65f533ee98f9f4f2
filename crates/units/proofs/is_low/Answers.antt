-- `units::is_low` meets its contract: the unit's kind settles it. Assumes nothing.
use mathlib.Core.Path.{◌≡◌, refl, sym, ap, ◌∙◌}
use denote.Enum.Bare.{sameb}
use Rattle.units.specs.contracts.Kind.{the_type}
use Rattle.units.specs.declared.Kind.{Kind}
use Rattle.units.specs.declared.Kind.TheVariants.{Plain, High, Low}
use Rattle.units.proofs.Halves.{low_kind, low_by-kind}
use Rattle.units.proofs.is_low.Goals as goal

equals : (k : Kind) → sameb the_type k Low ≡ low_kind k
equals Plain = refl
equals High = refl
equals Low = refl

pub returns : goal.returns
returns c = c.eq.ensures ∙ ap (λ (k : Kind). sameb the_type k Low) c.from.ensures ∙ equals _ ∙ sym (low_by-kind _)

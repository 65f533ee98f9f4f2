-- `units::is_high` meets its contract: the unit's kind settles it. Assumes nothing.
use mathlib.Core.Path.{◌≡◌, refl, sym, ap, ◌∙◌}
use denote.Enum.Bare.{sameb}
use Rattle.units.specs.contracts.Kind.{the_type}
use Rattle.units.specs.declared.Kind.{Kind}
use Rattle.units.specs.declared.Kind.TheVariants.{Plain, High, Low}
use Rattle.units.proofs.Halves.{high_kind, high_by-kind}
use Rattle.units.proofs.is_high.Goals as goal

equals : (k : Kind) → sameb the_type k High ≡ high_kind k
equals Plain = refl
equals High = refl
equals Low = refl

pub returns : goal.returns
returns c = c.eq.ensures ∙ ap (λ (k : Kind). sameb the_type k High) c.from.ensures ∙ equals _ ∙ sym (high_by-kind _)

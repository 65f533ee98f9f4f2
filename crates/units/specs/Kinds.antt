-- What a single unit is.
use Rattle.std.specs.Prelude.{ℕ, cond}
use Rattle.units.specs.declared.Kind.{Kind}
use Rattle.units.specs.declared.Kind.TheVariants.{Plain, High, Low}
use Rattle.units.specs.Surrogates.{is_high, is_low}

-- A first half, a second half, or a whole character by itself.
unfoldable pub kind_of : ℕ → Kind
kind_of u = cond (is_high u) High (cond (is_low u) Low Plain)

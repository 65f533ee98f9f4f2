-- `units::splits_pair` meets its contract: both units lie in the text, or there is no pair to split. Assumes nothing.
use Prim.Native.Nat.{◌<◌}
use mathlib.Core.Path.{sym, ◌∙◌}
use native.Mathlib.Omega.{arith}
use Rattle.units.proofs.Pairing.{splits-end, splits-high, splits-plain}
use Rattle.units.proofs.splits_pair.Goals as goal

pub returns-then-i-units : goal.returns-then-i-units
returns-then-i-units c = sym (splits-end _ _ c.if-i-units.true)

pub returns-then-is_high : goal.returns-then-is_high
returns-then-is_high c =
    let past : 0 < c.args.index = omega arith in
    let high = sym c.is_high.ensures ∙ c.if-is_high.true in
    c.is_low.ensures ∙ sym (splits-high c.args.units.now _ past high)

pub returns-else-is_high : goal.returns-else-is_high
returns-else-is_high c =
    let past : 0 < c.args.index = omega arith in
    c.if-is_high.false ∙ sym (splits-plain c.args.units.now _ past (sym c.is_high.ensures ∙ c.if-is_high.false))

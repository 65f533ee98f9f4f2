-- `units::is_whole` meets its contract. The invariant: the rest, read after the unit that is held, is whole where the text is.
-- Assumes nothing.
use Prim.Native.Nat.{◌+◌}
use mathlib.Core.Path.{◌≡◌, refl, sym, ap, ◌∙◌}
use mathlib.Core.Bool.{Bool, true, false, not, beq}
use lib.ListN.{drop}
use Rattle.units.specs.Surrogates.{paired_from}
use Rattle.units.proofs.Pairing.{turn_at, turn_off-at, turn_end}
use Rattle.units.proofs.is_whole.Goals as goal

-- the code's test of two flags
differ : (a b : Bool) → not (beq a b) ≡ true → a ≡ not b
differ true true e = sym e
differ true false e = refl
differ false true e = refl
differ false false e = e

agree : (a b : Bool) → not (beq a b) ≡ false → a ≡ b
agree true true e = refl
agree true false e = e
agree false true e = sym e
agree false false e = refl

pub returns-then-is_low-held : goal.returns-then-is_low-held
returns-then-is_low-held c = sym (sym c.loop-unit.invariant ∙ turn_off-at _ _ _ c.loop-unit-test.true (sym c.is_low.ensures ∙ differ _ _ c.if-is_low-held.true))

pub loop-unit-preserved : goal.loop-unit-preserved
loop-unit-preserved c =
    let low = sym c.is_low.ensures ∙ agree _ _ c.if-is_low-held.false in
    let text = c.args.units.now in
    ap (λ (b : Bool). paired_from b (drop (c.loop-unit.unit-index + 1) text)) c.is_high-held.ensures
    ∙ sym (turn_at _ _ _ c.loop-unit-test.true low) ∙ c.loop-unit.invariant

pub returns : goal.returns
returns c = sym (sym c.loop-unit.invariant ∙ turn_end _ _ _ c.loop-unit-test.false)

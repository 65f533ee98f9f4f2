-- `entries::soundness::all_fit` meets its contract. The invariant: the slots that are left are in order exactly where all are. Assumes nothing.
use native.Mathlib.Omega.{arith}
use mathlib.Core.Path.{sym, ◌∙◌}
use Rattle.entries.proofs.Entries.{fit-step, fit-fails, fit-end}
use Rattle.entries.proofs.soundness.all_fit.Goals as goal

pub returns-then-not-slot_fits : goal.returns-then-not-slot_fits
returns-then-not-slot_fits c = sym (fit-fails _ _ _ _ (omega arith) (sym c.slot_fits.ensures ∙ c.if-not-slot_fits.true)) ∙ c.loop-i.invariant

pub loop-i-preserved : goal.loop-i-preserved
loop-i-preserved c = sym (fit-step _ _ _ _ (omega arith) (sym c.slot_fits.ensures ∙ c.if-not-slot_fits.false)) ∙ c.loop-i.invariant

pub returns : goal.returns
returns c = sym (fit-end _ _ _ _ c.loop-i-test.false) ∙ c.loop-i.invariant

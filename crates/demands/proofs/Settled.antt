-- Every step, on any head and any buffers: what it answers, and what it leaves. Assumes nothing.
use native.Mathlib.Omega.{arith}
use Rattle.std.proofs.Common.{rules}
use mathlib.Core.Path.{◌≡◌, sym, ap, ◌∙◌}
use mathlib.Core.Bool.{true}
use Rattle.std.proofs.lemmas.Bool.{true_from_ne_false}
use Rattle.rules.specs.Calls.{Sheet, Call, call}
use Rattle.rules.specs.Reading.{visible}
use Rattle.rules.specs.Rulings.{Within, ruling, ruled, FineCall}
use Rattle.laws.proofs.Calls.{call-accepted}
use Rattle.laws.proofs.Shows.{call_length}
use Rattle.layout.specs.Memory.{Carried, stored_all}
use Rattle.layout.proofs.Soundness.{sound-parts}
use Rattle.layout.proofs.Models.{model-sound}
use Rattle.items.proofs.Carries.{carry-done}
use Rattle.sheet.proofs.Theorems.{refusal_is, refused-exactly, broken-exactly, refused-keeps, leaves-sound, leaves-pairs, leaves-cells}
use Rattle.demands.specs.Steps.{State, sound, model, Step, does, turned, answered, left}
use Rattle.demands.specs.Demands.{Called, Settled, FineStep}
use Rattle.demands.proofs.Bridge.{call-model, turned-keeps}
use Rattle.demands.proofs.Pages.{key_in_lem}

module _ (c : Call) (fine : FineCall c) (s : State) where
  abbrev r : Carried
  r = answered (does c) s

  -- what is accepted was sound
  was-sound : r.refusal ≡ 0 → sound s ≡ true
  was-sound z = true_from_ne_false (sound s) (λ e. omega (arith, (broken-exactly c s.head s.words s.units).1 e))

  within : r.refusal ≡ 0 → Within (model s)
  within z = (model-sound s.head s.words s.units (sound-parts s.head s.words s.units (was-sound z))).within

  -- by the rules it is accepted too
  accepted : r.refusal ≡ 0 → (call c (model s)).refusal ≡ 0
  accepted z = sym (refusal_is c s.head s.words s.units (was-sound z)) ∙ z

  ruled-is : r.refusal ≡ 0 → (call c (model s)).sheet ≡ ruled (ruling c (model s))
  ruled-is z = call-accepted c (model s) (within z) (accepted z)

  stored_is : r.refusal ≡ 0 → r ≡ stored_all (ruled (ruling c (model s))) s.head s.words s.units
  stored_is z =
      carry-done (call c) s.head s.words s.units (was-sound z) (accepted z)
      ∙ ap (λ (x : Sheet). stored_all x s.head s.words s.units) (ruled-is z)

  called : Called c s
  called = record {
    broken = broken-exactly c s.head s.words s.units;
    exactly = refused-exactly c s.head s.words s.units;
    kept = λ some. ap left (refused-keeps c s.head s.words s.units some);
    stored = stored_is;
    lies = λ z. call-model c fine s (was-sound z) ∙ ruled-is z;
    sound = λ ok. leaves-sound c s.head s.words s.units ok fine;
    pairs = λ ok. leaves-pairs c s.head s.words s.units ok fine;
    shown = λ z j l. leaves-cells c s.head s.words s.units (was-sound z) fine z j (key_in_lem j l);
    long = λ z. ap (λ (x : Sheet). visible x.items) (call-model c fine s (was-sound z)) ∙ call_length c (model s) (within z) (accepted z);
  }

-- The first and the second demand.
pub every-step : (t : Step) → FineStep t → (s : State) → Settled t s
every-step (does c) fine s = called c fine s
every-step (turned n) fine s = record { number = grind rules; kept = turned-keeps n s }

-- The visible length of a sheet: what is known where it is told, and where its absence is refused. Assumes nothing.
use Prim.Native.Nat.{ℕ}
use native.Mathlib.Omega.{arith}
use mathlib.Core.Path.{◌≡◌, sym, ap, ◌∙◌}
use mathlib.Core.Bool.{true, false}
use mathlib.Core.List.{List}
use Rattle.std.specs.Prelude.{Option, Some, None, Result, Ok, Err}
use Rattle.std.specs.Option.{ok_or}
use Rattle.std.specs.Result.{result_unwrap_or}
use Rattle.refusal.specs.declared.Refusal.{Refusal}
use Rattle.refusal.specs.declared.Refusal.TheVariants.{Broken}
use Rattle.refusal.specs.Numbers.{number_of}
use Rattle.refusal.proofs.Numbered.{number-some, number-ok, number-err}
use Rattle.rules.specs.Reading.{visible}
use Rattle.layout.specs.declared.head.Head.{Head}
use Rattle.layout.specs.Memory.{list_of, sound_of}
use Rattle.soundness.specs.Walk.{told, measure_of}
use Rattle.soundness.proofs.Measures.{sound-is, len_is}

module _ (h : Head) (m u : List ℕ) where
  pub measured-ok : (o : Option ℕ) → told o ≡ measure_of h m u → {n : ℕ} → ok_or o Broken ≡ Ok n → (sound_of h m u ≡ true) × (n ≡ visible (list_of h m))
  measured-ok None e q = let z : ◌≡◌ {A = ℕ} 9 0 = number-ok q in absurd (omega (arith, z))
  measured-ok (Some k) e q =
      let ok = sym (sound-is h m u _ e) in
      (ok, sym (ap (λ (r : Result ℕ Refusal). result_unwrap_or r 0) q) ∙ len_is h m u _ e ok)

  pub measured-err : (o : Option ℕ) → told o ≡ measure_of h m u → {r : Refusal} → ok_or o Broken ≡ Err r → (sound_of h m u ≡ false) × (9 ≡ number_of r)
  measured-err None e q = (sym (sound-is h m u _ e), number-err q)
  measured-err (Some k) e {r} q = absurd (number-some r (sym (number-err q)))

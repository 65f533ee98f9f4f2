-- What is measured of a sheet, by whether it is sound. Assumes nothing.
use Prim.Native.Nat.{ℕ}
use mathlib.Core.Path.{◌≡◌, refl, ap, ◌∙◌}
use mathlib.Core.Bool.{Bool, true, false, cond}
use mathlib.Core.List.{List}
use Rattle.std.specs.Prelude.{Option, Some, None}
use Rattle.std.specs.Option.{is_some}
use Rattle.rules.specs.Reading.{visible}
use Rattle.layout.specs.declared.head.Head.{Head}
use Rattle.layout.specs.Memory.{list_of, sound_of}
use Rattle.soundness.specs.Walk.{Measured, broken, told, measure_of}

module _ (h : Head) (m u : List ℕ) where
  pub measured-broken : sound_of h m u ≡ false → broken ≡ measure_of h m u
  unfolding measure_of
  measured-broken s = rw s

  pub measured-sound : (n : ℕ) → sound_of h m u ≡ true → n ≡ visible (list_of h m) → record { sound = true; len = n } ≡ measure_of h m u
  unfolding measure_of
  measured-sound n s e = rw (s, e)

  pub sound-is : (r : Measured) → r ≡ measure_of h m u → r.sound ≡ sound_of h m u
  unfolding measure_of
  sound-is r e = ap (λ (x : Measured). x.sound) e ∙ go (sound_of h m u)
    where
      go : (b : Bool) → (cond b (record { sound = true; len = visible (list_of h m) }) broken).sound ≡ b
      go true = refl
      go false = refl

  pub told-sound : (o : Option ℕ) → told o ≡ measure_of h m u → is_some o ≡ sound_of h m u
  told-sound None e = sound-is _ e
  told-sound (Some n) e = sound-is _ e

  pub len_is : (r : Measured) → r ≡ measure_of h m u → sound_of h m u ≡ true → r.len ≡ visible (list_of h m)
  unfolding measure_of
  len_is r e s = ap (λ (x : Measured). x.len) e ∙ ap (λ (b : Bool). (cond b (record { sound = true; len = visible (list_of h m) }) broken).len) s

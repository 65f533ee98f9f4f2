-- The ways of the call; and on a sound sheet, what the code lays out and counts is what the rules do. Assumes nothing.
use Prim.Native.Nat.{ℕ, ◌+◌}
use mathlib.Core.Path.{◌≡◌, sym, ap, ap₂, ◌∙◌}
use mathlib.Core.Bool.{true, false}
use mathlib.Core.List.{List, ◌++◌, map}
use lib.ListN.{length, take, length-append}
use Rattle.rules.specs.Reading.{Op}
use Rattle.rules.specs.Delta.{Given, delta}
use Rattle.rules.specs.Calls.{apply_delta, laid_out, new_units}
use Rattle.layout.specs.declared.head.Head.{Head}
use Rattle.layout.specs.Memory.{list_of, sound_of, Carried, kept_all, carry}
use Rattle.layout.proofs.Soundness.{sound-parts}
use Rattle.layout.proofs.Models.{used-length}
use Rattle.changes.specs.Frame.{Left, granted}
use Rattle.ops.specs.declared.delta.Delta.{Delta}
use Rattle.ops.specs.declared.delta.DeltaOp.{DeltaOp}
use Rattle.ops.specs.Ops.{op_of, ops_of}
use Rattle.carrying.specs.Turns.{laid, bringing}
use Rattle.deltas.specs.Checks.{any_past, many_of}
use Rattle.deltas.specs.Call.{short_scratch, carry_delta}
use Rattle.deltas.proofs.Laid.{laid-is, new-length}

module _ (t : List ℕ) (ds : List DeltaOp) (h : Head) (m u : List ℕ) (ok : sound_of h m u ≡ true) (parts : any_past (length t) ds ≡ false) where
  used-is : length (take h.units u) ≡ h.units
  used-is = used-length h m u (sound-parts h m u ok)

  pub delta-long : length (take h.units u ++ new_units (map (op_of t) ds)) ≡ h.units + bringing ds
  delta-long = length-append (take h.units u) (new_units (map (op_of t) ds)) ∙ ap₂ (λ (a b : ℕ). a + b) used-is (new-length t ds parts)

  pub delta-granted : (used : ℕ) (x : Left) → x ≡ granted (delta (laid h.units ds) (list_of h m) h.items) used h m
      → x ≡ granted (delta (laid_out (length (take h.units u)) (map (op_of t) ds)) (list_of h m) h.items) used h m
  delta-granted used x e =
      let same : laid_out (length (take h.units u)) (map (op_of t) ds) ≡ laid h.units ds = ap (λ (n : ℕ). laid_out n (map (op_of t) ds)) used-is ∙ laid-is t ds h.units parts in
      e ∙ ap (λ (l : List (Op Given)). granted (delta l (list_of h m) h.items) used h m) (sym same)

-- ---- the ways of the call
module _ (sm su : ℕ) (t : List ℕ) (d : Delta) (h : Head) (m u : List ℕ) where
  pub carried-unsound : sound_of h m u ≡ false → kept_all 9 h m u ≡ carry_delta sm su t d h m u
  unfolding carry_delta
  carried-unsound e = rw e

  module _ (ok : sound_of h m u ≡ true) where
    pub carried-many : many_of (length t) d ≡ true → kept_all 7 h m u ≡ carry_delta sm su t d h m u
    unfolding carry_delta
    carried-many e = rw (ok, e)

    module _ (read : many_of (length t) d ≡ false) where
      pub carried-short : short_scratch sm su ≡ true → kept_all 8 h m u ≡ carry_delta sm su t d h m u
      unfolding carry_delta
      carried-short e = rw (ok, read, e)

      pub carried-ruled : short_scratch sm su ≡ false → (x : Carried) → x ≡ carry (apply_delta (ops_of t d)) h m u → x ≡ carry_delta sm su t d h m u
      unfolding carry_delta
      carried-ruled e x is = rw (ok, read, e) is

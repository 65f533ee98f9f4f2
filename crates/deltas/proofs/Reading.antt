-- A delta read operation by operation. Assumes nothing.
use Prim.Native.Nat.{ℕ, suc, ◌+◌, ◌<◌, ◌≤◌}
use native.Mathlib.Numerals.{add-one}
use native.Mathlib.Omega.{arith}
use mathlib.Core.Path.{◌≡◌, sym, ap, ◌∙◌}
use mathlib.Core.Bool.{Bool, true, false, ◌||◌}
use mathlib.Core.List.{List, ◌∷◌}
use lib.ListN.{length, drop, drop_of_length-le}
use lib.Dec.{ltb}
use borrow.Author.Tests.{ltb-false, lt-ltb, le-ltb}
use Rattle.ops.specs.declared.delta.DeltaOp.{DeltaOp}
use Rattle.ops.specs.declared.delta.Delta.{Delta}
use Rattle.carrying.specs.Turns.{brings, bringing, given}
use Rattle.deltas.specs.Checks.{past_end, any_past, many_of}
use Rattle.deltas.proofs.Refusals.{left_false}

-- ---- a part past the end
module _ (n : ℕ) (ds : List DeltaOp) (i : ℕ) where
  abbrev pub NoneYet : Type 0
  NoneYet = any_past n (drop i ds) ≡ any_past n ds

  module _ (d : DeltaOp) (is : drop i ds ≡ d ∷ drop (suc i) ds) where
    pub past-here : NoneYet → past_end n d.op ≡ true → any_past n ds ≡ true
    unfolding any_past
    past-here o e = sym o ∙ ap (any_past n) is ∙ ap (λ (b : Bool). b || any_past n (drop (suc i) ds)) e

    pub past-later : NoneYet → past_end n d.op ≡ false → any_past n (drop (i + 1) ds) ≡ any_past n ds
    unfolding any_past
    past-later o e =
        ap (λ (k : ℕ). any_past n (drop k ds)) (add-one i)
        ∙ ap (λ (b : Bool). b || any_past n (drop (suc i) ds)) (sym e)
        ∙ ap (any_past n) (sym is)
        ∙ o

  pub past-none : NoneYet → length ds ≤ i → any_past n ds ≡ false
  unfolding any_past
  past-none o e = sym o ∙ ap (any_past n) (drop_of_length-le ds e)

pub many-count : (n : ℕ) (d : Delta) → 256 < d.count → true ≡ many_of n d
unfolding many_of
many-count n d l = rw (lt-ltb 256 d.count l)

pub many-parts : (n : ℕ) (d : Delta) → d.count ≤ 256 → (b : Bool) → any_past n (given d) ≡ b → b ≡ many_of n d
unfolding many_of
many-parts n d l b e = sym e ∙ ap (λ (x : Bool). x || any_past n (given d)) (sym (le-ltb 256 d.count l))

pub many-none : (n : ℕ) (d : Delta) → many_of n d ≡ false → (d.count ≤ 256) × (any_past n (given d) ≡ false)
unfolding many_of
many-none n d e = let b = left_false (ltb 256 d.count) (any_past n (given d)) e in (ltb-false 256 d.count b.0, b.1)

-- ---- how many units
pub total-next : (ds : List DeltaOp) (i : ℕ) (d : DeltaOp) → drop i ds ≡ d ∷ drop (suc i) ds → (sum : ℕ) → sum + bringing (drop i ds) ≡ bringing ds → sum + brings d.op + bringing (drop (i + 1) ds) ≡ bringing ds
unfolding bringing
total-next ds i d is sum o = omega (arith, o, ap bringing is, ap (λ (k : ℕ). bringing (drop k ds)) (add-one i))

pub total_done : (ds : List DeltaOp) (i : ℕ) → length ds ≤ i → (sum : ℕ) → sum + bringing (drop i ds) ≡ bringing ds → sum ≡ bringing ds
unfolding bringing
total_done ds i e sum o = omega (arith, o, ap bringing (drop_of_length-le ds e))

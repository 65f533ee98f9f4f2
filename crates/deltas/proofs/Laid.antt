-- What the code lays out is what the rules lay out: where each text's units will stand, and how many there are. Assumes nothing.
use Prim.Native.Nat.{ℕ, ◌+◌, ◌≤◌}
use native.Mathlib.Omega.{arith}
use mathlib.Core.Path.{◌≡◌, refl, ap, ap₂, ◌∙◌}
use mathlib.Core.Bool.{false}
use mathlib.Core.List.{List, [], ◌∷◌, ◌++◌, map}
use lib.ListN.{length, take, drop, length-drop, length-append}
use lib.Seq.{length-take-le}
use borrow.Author.Tests.{ltb-false}
use Rattle.sets.specs.Sets.{Set}
use Rattle.attrs.specs.Packed.{says}
use Rattle.rules.specs.Reading as rules
use Rattle.rules.specs.Delta.{Given, new_text, new_embed}
use Rattle.rules.specs.Calls.{Body, laid_out, new_units}
use Rattle.ops.specs.declared.delta.Inserted.TheVariants.{Text, Embed}
use Rattle.ops.specs.declared.delta.Op.{Op}
use Rattle.ops.specs.declared.delta.Op.TheVariants.{Insert, Delete, Retain}
use Rattle.ops.specs.declared.delta.DeltaOp.{DeltaOp}
use Rattle.ops.specs.Ops.{op_for, op_of}
use Rattle.carrying.specs.Turns.{brings, laid_for, laid, bringing}
use Rattle.deltas.specs.Checks.{past_end, any_past}
use Rattle.deltas.specs.Texts.{units_of}
use Rattle.deltas.proofs.Refusals.{left_false}

module _ (t : List ℕ) where
  part_length : (s n : ℕ) → s + n ≤ length t → length (take n (drop s t)) ≡ n
  part_length s n h = length-take-le n (drop s t) (omega (arith, length-drop s t))

  -- ---- one operation
  laid_one : (o : Op) (a : Set) (os : List (rules.Op Body)) (m : ℕ) → past_end (length t) o ≡ false → laid_out m (op_for t a o ∷ os) ≡ laid_for m a o ∷ laid_out (m + brings o) os
  laid_one (Insert (Text s n)) a os m e = ap (λ (k : ℕ). rules.insert (new_text m k) a ∷ laid_out (m + k) os) (part_length s n (ltb-false (length t) (s + n) e))
  laid_one (Insert (Embed x)) a os m e = let z : m ≡ m + 0 = omega arith in ap (λ (k : ℕ). rules.insert (new_embed x) a ∷ laid_out k os) z
  laid_one (Delete n) a os m e = let z : m ≡ m + 0 = omega arith in ap (λ (k : ℕ). rules.delete n ∷ laid_out k os) z
  laid_one (Retain n) a os m e = let z : m ≡ m + 0 = omega arith in ap (λ (k : ℕ). rules.retain n a ∷ laid_out k os) z

  -- as many units as it brings ..
  pub units-long : (o : Op) → past_end (length t) o ≡ false → length (units_of t o) ≡ brings o
  units-long (Insert (Text s n)) e = part_length s n (ltb-false (length t) (s + n) e)
  units-long (Insert (Embed x)) e = refl
  units-long (Delete n) e = refl
  units-long (Retain n) e = refl

  -- .. in front of those of the operations behind it
  pub new-cons : (o : Op) (a : Set) (os : List (rules.Op Body)) → new_units (op_for t a o ∷ os) ≡ units_of t o ++ new_units os
  new-cons (Insert (Text s n)) a os = refl
  new-cons (Insert (Embed x)) a os = refl
  new-cons (Delete n) a os = refl
  new-cons (Retain n) a os = refl

  -- ---- all of them
  pub laid-is : (ds : List DeltaOp) (m : ℕ) → any_past (length t) ds ≡ false → laid_out m (map (op_of t) ds) ≡ laid m ds
  unfolding any_past laid op_of
  laid-is [] m e = refl
  laid-is (d ∷ ds) m e =
      let b = left_false (past_end (length t) d.op) (any_past (length t) ds) e in
      laid_one d.op (says d.attrs) (map (op_of t) ds) m b.0 ∙ ap (λ (l : List (rules.Op Given)). laid_for m (says d.attrs) d.op ∷ l) (laid-is ds (m + brings d.op) b.1)

  pub new-length : (ds : List DeltaOp) → any_past (length t) ds ≡ false → length (new_units (map (op_of t) ds)) ≡ bringing ds
  unfolding any_past bringing op_of
  new-length [] e = refl
  new-length (d ∷ ds) e =
      let b = left_false (past_end (length t) d.op) (any_past (length t) ds) e in
      ap length (new-cons d.op (says d.attrs) (map (op_of t) ds)) ∙ length-append (units_of t d.op) _ ∙ ap₂ (λ (a b : ℕ). a + b) (units-long d.op b.0) (new-length ds b.1)

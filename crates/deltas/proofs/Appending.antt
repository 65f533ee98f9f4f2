-- Texts put behind one another: what is left to put gives what there was to put at first. Assumes nothing.
use Prim.Native.Nat.{ℕ, suc, ◌+◌, ◌-◌, ◌≤◌}
use native.Mathlib.Nat.{add-sub_cancel_left}
use native.Mathlib.Numerals.{add-one}
use native.Mathlib.Omega.{arith}
use mathlib.Core.Path.{◌≡◌, refl, sym, ap, ◌∙◌}
use mathlib.Core.Bool.{false}
use mathlib.Core.List.{List, [], ◌∷◌, map}
use lib.ListN.{length, take, drop, drop_of_length-le}
use Rattle.attrs.specs.Packed.{says}
use Rattle.rules.specs.Calls.{new_units}
use Rattle.ops.specs.declared.delta.Inserted.TheVariants.{Text}
use Rattle.ops.specs.declared.delta.Op.{Op}
use Rattle.ops.specs.declared.delta.Op.TheVariants.{Insert}
use Rattle.ops.specs.declared.delta.DeltaOp.{DeltaOp}
use Rattle.ops.specs.Ops.{op_of}
use Rattle.changes.specs.Appends.{appended}
use Rattle.changes.proofs.Appends.{appended-length, appended-twice, appended-none}
use Rattle.carrying.specs.Turns.{brings, bringing}
use Rattle.deltas.specs.Checks.{past_end, any_past}
use Rattle.deltas.specs.Texts.{units_of}
use Rattle.deltas.proofs.Refusals.{parts_next}
use Rattle.deltas.proofs.Laid.{units-long, new-cons}

-- ---- one operation, that is known
-- a text: the part of the lent units that the code cuts out
pub part-is : {o : Op} (t : List ℕ) (s n : ℕ) → o ≡ Insert (Text s n) → take (s + n - s) (drop s t) ≡ units_of t o
part-is t s n e = ap (λ (k : ℕ). take k (drop s t)) (add-sub_cancel_left s n) ∙ sym (ap (units_of t) e)

-- one that has no text
pub nothing_put : {o p : Op} (t u : List ℕ) (a : ℕ) → a ≤ length u → o ≡ p → units_of t p ≡ [] → u ≡ appended a (units_of t o) u
nothing_put t u a low e none = appended-none u a low ∙ ap (λ (x : List ℕ). appended a x u) (sym (ap (units_of t) e ∙ none))

-- ---- on the way
pub record Putting (t : List ℕ) (ds : List DeltaOp) (goal : List ℕ) (i at : ℕ) (u : List ℕ) : Type 0 where
  pub long : length u ≡ 16384
  pub room : at + bringing (drop i ds) ≤ 16384
  pub parts : any_past (length t) (drop i ds) ≡ false
  pub rest : appended at (new_units (map (op_of t) (drop i ds))) u ≡ goal

pub putting-start : (t : List ℕ) (ds : List DeltaOp) (at : ℕ) (u : List ℕ) → length u ≡ 16384 → at + bringing ds ≤ 16384 → any_past (length t) ds ≡ false
    → Putting t ds (appended at (new_units (map (op_of t) ds)) u) 0 at u
putting-start t ds at u l r p = record { long = l; room = r; parts = p; rest = refl }

module _ {t : List ℕ} {ds : List DeltaOp} {goal : List ℕ} {i at : ℕ} {u : List ℕ} (o : Putting t ds goal i at u) where
  module _ (d : DeltaOp) (is : drop i ds ≡ d ∷ drop (suc i) ds) where
    pub put-part : past_end (length t) d.op ≡ false
    put-part = (parts_next (length t) d is o.parts).0

    pub put-room : at + brings d.op + bringing (drop (suc i) ds) ≤ 16384
    unfolding bringing
    put-room = omega (arith, o.room, ap bringing is)

    put_rest : appended (at + brings d.op) (new_units (map (op_of t) (drop (suc i) ds))) (appended at (units_of t d.op) u) ≡ goal
    unfolding op_of
    put_rest =
        appended-twice u (units_of t d.op) at (brings d.op) (omega (arith, put-room, o.long)) (units-long t d.op put-part) _
        ∙ ap (λ (x : List ℕ). appended at x u) (sym (new-cons t d.op (says d.attrs) (map (op_of t) (drop (suc i) ds))))
        ∙ ap (λ (l : List DeltaOp). appended at (new_units (map (op_of t) l)) u) (sym is)
        ∙ o.rest

    pub putting-next : (u₁ : List ℕ) → u₁ ≡ appended at (units_of t d.op) u → (at₁ : ℕ) → at₁ ≡ at + brings d.op → Putting t ds goal (i + 1) at₁ u₁
    putting-next u₁ eu at₁ ea =
        rw (add-one i, eu, ea)
        (record {
          long = appended-length u (units_of t d.op) at (brings d.op) (omega (arith, put-room, o.long)) (units-long t d.op put-part) (omega (arith, put-room, o.long)) ∙ o.long;
          room = put-room;
          parts = (parts_next (length t) d is o.parts).1;
          rest = put_rest;
        })

  pub putting-done : length ds ≤ i → u ≡ goal
  putting-done e =
      appended-none u at (omega (arith, o.room, o.long))
      ∙ ap (λ (l : List DeltaOp). appended at (new_units (map (op_of t) l)) u) (sym (drop_of_length-le ds e))
      ∙ o.rest

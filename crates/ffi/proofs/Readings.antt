-- Operations that are read one after the other. Assumes nothing.
use Rattle.std.proofs.Common.{ℕ, zero, suc, ◌+◌, ◌-◌, ◌/◌, ◌%◌, ◌<◌, ◌≡◌, Bool, true, false, cond, List, length, Option, Some, None, Result, Ok, Err, refl, ap, ◌∙◌, add-one, arith, ltb, eqb, lt-ltb}
use Rattle.std.proofs.Math.Nat.{add-zero, add-suc}
use Rattle.std.specs.Result.{result_ok}
use Rattle.refusal.proofs.Numbered.{number-some}
use Rattle.refusal.specs.declared.Refusal.{Refusal}
use Rattle.ops.specs.declared.delta.DeltaOp.{DeltaOp}
use Rattle.ops.specs.declared.delta.Delta.{Delta}
use Rattle.ops.specs.Ops.{Pushed, pushed, took}
use Rattle.encoding.specs.Words.{found_at}
use Rattle.ffi.specs.Deltas.{added, read_ops, delta_in}

-- Below 256 there is room for one more.
module _ (d : Delta) (o : DeltaOp) (few : d.count < 256) where
  pub pushed_count : (pushed d o).delta.count ≡ d.count + 1
  unfolding pushed
  pushed_count = rw (lt-ltb d.count 256 few) refl

  taken : (pushed d o).refusal ≡ 0
  unfolding pushed
  taken = rw (lt-ltb d.count 256 few) refl

  pub pushed_ok : (r : Result Delta Refusal) → took d r ≡ pushed d o → result_ok r ≡ Some (pushed d o).delta
  pushed_ok (Ok t) p = ap (λ (x : Pushed). Some x.delta) p
  pushed_ok (Err e) p = absurd (number-some e (ap (λ (x : Pushed). x.refusal) p ∙ taken))

module _ (w : List ℕ) where
  none-more : (k i : ℕ) → read_ops i w ≡ None → read_ops (i + k) w ≡ None
  unfolding read_ops
  none-more zero i e = simp add-zero e
  none-more (suc k) i e = rw (add-suc i k, none-more k i e) refl

  read-none : (i n : ℕ) → i < n → found_at w i ≡ None → read_ops n w ≡ None
  unfolding read_ops
  read-none i n l f =
      let e : n ≡ suc i + (n - (i + 1)) = omega arith in
      let here : read_ops (suc i) w ≡ None = rw f (unread (read_ops i w)) in
      rw e (none-more (n - (i + 1)) (suc i) here)
    where
      unread : (r : Option Delta) → added r None ≡ None
      unread None = refl
      unread (Some d) = refl

  -- what is no operation makes the whole none
  pub none_read : (i : ℕ) → i < length w / 8 → found_at w i ≡ None → delta_in w ≡ None
  unfolding delta_in
  none_read i l f = rw (read-none i (length w / 8) l f) (none (ltb 2048 (length w)) (eqb (length w % 8) 0))
    where
      none : (a b : Bool) → (let x : Option Delta = None in cond a x (cond b x x) ≡ x)
      none true b = refl
      none false true = refl
      none false false = refl

  pub one_read : (i : ℕ) (d : Delta) (o : DeltaOp) → read_ops i w ≡ Some d → found_at w i ≡ Some o → read_ops (i + 1) w ≡ Some (pushed d o).delta
  unfolding read_ops
  one_read i d o e f = rw (add-one i, e, f) refl

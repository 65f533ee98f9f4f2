-- What the number of an answer says: none where it is accepted, its own and never 0 where it is refused.
use Rattle.std.proofs.Common.{◌≡◌, refl, sym, ap, ◌∙◌}
use native.Mathlib.Omega.{arith}
use Rattle.std.specs.Prelude.{ℕ, cond, eqb, Result, Ok, Err}
use Rattle.refusal.specs.declared.Refusal.{Refusal}
use Rattle.refusal.specs.declared.Refusal.TheVariants.{Short, Pair, Units, Room, Full, Long, Many, Out, Broken, Key}
use Rattle.refusal.specs.Numbers.{number_of, refusal_in}

pub number-some : (r : Refusal) → number_of r ≡ 0 → ⊥
number-some Short e = omega arith
number-some Pair e = omega arith
number-some Units e = omega arith
number-some Room e = omega arith
number-some Full e = omega arith
number-some Long e = omega arith
number-some Many e = omega arith
number-some Out e = omega arith
number-some Broken e = omega arith
number-some Key e = omega arith

module _ {A : Type 0} {r : Result A Refusal} where
  pub number-ok : {a : A} → r ≡ Ok a → refusal_in r ≡ 0
  number-ok e = ap refusal_in e

  pub number-err : {n : Refusal} → r ≡ Err n → refusal_in r ≡ number_of n
  number-err e = ap refusal_in e

-- which refusal a number is of
refusal_at : ℕ → Refusal
refusal_at n =
    cond (eqb n 1) Short (cond (eqb n 2) Pair (cond (eqb n 3) Units (cond (eqb n 4) Room (cond (eqb n 5) Full
    (cond (eqb n 6) Long (cond (eqb n 7) Many (cond (eqb n 8) Out (cond (eqb n 9) Broken Key))))))))

at_number : (r : Refusal) → refusal_at (number_of r) ≡ r
unfolding refusal_at
at_number Short = refl
at_number Pair = refl
at_number Units = refl
at_number Room = refl
at_number Full = refl
at_number Long = refl
at_number Many = refl
at_number Out = refl
at_number Broken = refl
at_number Key = refl

pub number-tells : (r s : Refusal) → number_of r ≡ number_of s → r ≡ s
number-tells r s e = sym (at_number r) ∙ ap refusal_at e ∙ at_number s

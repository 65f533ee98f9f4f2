-- The refusals of a delta, operation by operation. Assumes nothing.
use Prim.Native.Nat.{ℕ, suc, ◌+◌, ◌-◌, ◌<◌, ◌≤◌, min}
use native.Mathlib.Numerals.{add-one}
use native.Mathlib.Omega.{arith}
use mathlib.Core.Path.{◌≡◌, refl, sym, ap, subst, ◌∙◌}
use mathlib.Core.Bool.{Bool, true, false, cond, ◌||◌}
use mathlib.Core.List.{List, ◌∷◌, map}
use lib.ListN.{length, drop, drop_of_length-le}
use borrow.Author.Tests.{lt-ltb, le-ltb, ltb-false}
use Rattle.units.specs.Surrogates.{paired, splits_pair}
use Rattle.sets.specs.Sets.{Set}
use Rattle.attrs.specs.Packed.{says}
use Rattle.rules.specs.Reading as rules
use Rattle.rules.specs.Calls.{Body, words, object, too_long, check}
use Rattle.rules.specs.Rulings.{fault_at, behind, here}
use Rattle.laws.proofs.Rulings.{faulty}
use Rattle.ops.specs.declared.delta.Inserted.{Inserted}
use Rattle.ops.specs.declared.delta.Inserted.TheVariants.{Text, Embed}
use Rattle.ops.specs.declared.delta.Op.{Op}
use Rattle.ops.specs.declared.delta.Op.TheVariants.{Insert, Delete, Retain}
use Rattle.ops.specs.declared.delta.DeltaOp.{DeltaOp}
use Rattle.ops.specs.Ops.{op_for, op_of}
use Rattle.deltas.specs.Checks.{past_part, past_end, any_past}
use Rattle.deltas.specs.Faults.{fault_for, place_after}

-- ---- the code's names for the rules'
fault-is : (us t : List ℕ) (c : ℕ) (a : Set) (o : Op) → fault_at us c (op_for t a o) ≡ fault_for us c t o
fault-is us t c a (Insert (Text s n)) = refl
fault-is us t c a (Insert (Embed e)) = refl
fault-is us t c a (Delete n) = refl
fault-is us t c a (Retain n) = refl

after_is : (us t : List ℕ) (c : ℕ) (a : Set) (o : Op) → behind us c (op_for t a o) ≡ place_after (length us) c o
after_is us t c a (Insert (Text s n)) = refl
after_is us t c a (Insert (Embed e)) = refl
after_is us t c a (Delete n) = refl
after_is us t c a (Retain n) = refl

pub after-le : (l c : ℕ) (o : Op) → c ≤ l → place_after l c o ≤ l
after-le l c (Insert i) h = h
after-le l c (Delete n) h = omega arith
after-le l c (Retain n) h = omega arith

-- an operation with nothing wrong
check-on : (us : List ℕ) (c : ℕ) (o : rules.Op Body) (os : List (rules.Op Body)) → fault_at us c o ≡ 0 → check us c (o ∷ os) ≡ check us (behind us c o) os
check-on us c (rules.insert (words t) a) os = go (paired t)
  where
    go : (b : Bool) → ◌≡◌ {A = ℕ} (cond b 0 3) 0 → cond b (check us c os) 3 ≡ check us c os
    go true e = refl
    go false e = absurd (omega arith)
check-on us c (rules.insert (object x) a) os = λ e. refl
check-on us c (rules.delete n) os = go (splits_pair us (c + n)) (too_long us c n)
  where
    go : (b b' : Bool) → ◌≡◌ {A = ℕ} (cond b 2 (cond b' 1 0)) 0 → cond b 2 (cond b' 1 (check us (min (length us) (c + n)) os)) ≡ check us (min (length us) (c + n)) os
    go true b' e = absurd (omega arith)
    go false true e = absurd (omega arith)
    go false false e = refl
check-on us c (rules.retain n a) os = go (splits_pair us (c + n))
  where
    go : (b : Bool) → ◌≡◌ {A = ℕ} (cond b 2 0) 0 → cond b 2 (check us (min (length us) (c + n)) os) ≡ check us (min (length us) (c + n)) os
    go true e = absurd (omega arith)
    go false e = refl

-- ---- one operation
module _ (us : List ℕ) (l c n : ℕ) where
  -- a pair that a deletion cuts is its fault ..
  pub delete-pair : {r : ℕ} → r ≡ cond (splits_pair us (c + n)) 2 0 → (r ≡ 0 → ⊥) → r ≡ cond (splits_pair us (c + n)) 2 (cond (too_long us c n) 1 0)
  delete-pair {r} e some = go (splits_pair us (c + n)) e
    where
      go : (b : Bool) → r ≡ cond b 2 0 → r ≡ cond b 2 (cond (too_long us c n) 1 0)
      go true q = q
      go false q = absurd (some q)

  -- .. and where it cuts none its length decides
  module _ (e : ◌≡◌ {A = ℕ} 0 (cond (splits_pair us (c + n)) 2 0)) (long : l ≡ length us) where
    uncut : ◌≡◌ {A = ℕ} (cond (too_long us c n) 1 0) (cond (splits_pair us (c + n)) 2 (cond (too_long us c n) 1 0))
    uncut = go (splits_pair us (c + n)) e
      where
        go : (b : Bool) → ◌≡◌ {A = ℕ} 0 (cond b 2 0) → ◌≡◌ {A = ℕ} (cond (too_long us c n) 1 0) (cond b 2 (cond (too_long us c n) 1 0))
        go true q = absurd (omega (arith, q))
        go false q = refl

    pub delete-short : l - c < n → ◌≡◌ {A = ℕ} 1 (cond (splits_pair us (c + n)) 2 (cond (too_long us c n) 1 0))
    delete-short h = ap {B = ℕ} (λ (x : Bool). cond x 1 0) (sym (lt-ltb (length us - c) n (omega (arith, long)))) ∙ uncut

    pub delete-fine : n ≤ l - c → ◌≡◌ {A = ℕ} 0 (cond (splits_pair us (c + n)) 2 (cond (too_long us c n) 1 0))
    delete-fine h = ap {B = ℕ} (λ (x : Bool). cond x 1 0) (sym (le-ltb (length us - c) n (omega (arith, long)))) ∙ uncut

pub part_in_lem : {x : Inserted} (n s k : ℕ) → x ≡ Text s k → past_part n x ≡ false → s + k ≤ n
part_in_lem n s k e h = ltb-false n (s + k) (subst (λ (y : Inserted). past_part n y ≡ false) e h)

pub op-in : {x y : Op} (n : ℕ) → x ≡ y → past_end n x ≡ false → past_end n y ≡ false
op-in n e h = subst (λ (z : Op). past_end n z ≡ false) e h

-- ---- on the way
pub record Faultless (us t : List ℕ) (ds : List DeltaOp) (i c : ℕ) : Type 0 where
  pub place : c ≤ length us
  pub parts : any_past (length t) (drop i ds) ≡ false
  pub rest : check us c (map (op_of t) (drop i ds)) ≡ check us 0 (map (op_of t) ds)

pub faultless-start : (us t : List ℕ) (ds : List DeltaOp) → any_past (length t) ds ≡ false → Faultless us t ds 0 0
faultless-start us t ds e = record { place = omega arith; parts = e; rest = refl }

abbrev bit : Bool → ℕ
bit true = 1
bit false = 0

true_not_false : true ≡ false → ⊥
true_not_false e = let z : bit true ≡ bit false = ap bit e in omega (arith, z)

pub left_false : (a b : Bool) → (a || b) ≡ false → (a ≡ false) × (b ≡ false)
left_false true b e = (e, absurd (true_not_false e))
left_false false b e = (refl, e)

-- the next operation's part is not past the end, and no later one
pub parts_next : (n : ℕ) {l ds : List DeltaOp} (d : DeltaOp) → l ≡ d ∷ ds → any_past n l ≡ false → (past_end n d.op ≡ false) × (any_past n ds ≡ false)
unfolding any_past
parts_next n d is e = left_false (past_end n d.op) _ (sym (ap (any_past n) is) ∙ e)

module _ {us t : List ℕ} {ds : List DeltaOp} {i c : ℕ} (f : Faultless us t ds i c) where
  module _ (d : DeltaOp) (is : drop i ds ≡ d ∷ drop (suc i) ds) where
    pub next-part : past_end (length t) d.op ≡ false
    next-part = (parts_next (length t) d is f.parts).0

    same : check us c (op_of t d ∷ map (op_of t) (drop (suc i) ds)) ≡ check us 0 (map (op_of t) ds)
    same = ap (λ (l : List DeltaOp). check us c (map (op_of t) l)) (sym is) ∙ f.rest

    pub refused-here : (r : ℕ) → r ≡ fault_for us c t d.op → (r ≡ 0 → ⊥) → r ≡ check us 0 (map (op_of t) ds)
    unfolding op_of
    refused-here r e some = sym ((faulty us r c (op_of t d ∷ map (op_of t) (drop (suc i) ds)) (omega (arith, some))).1 (here (fault-is us t c (says d.attrs) d.op ∙ sym e))) ∙ same

    pub faultless-next : (r : ℕ) → r ≡ fault_for us c t d.op → r ≡ 0 → (c₁ : ℕ) → c₁ ≡ place_after (length us) c d.op → Faultless us t ds (i + 1) c₁
    unfolding op_of
    faultless-next r e none c₁ ec =
        subst (λ (k : ℕ). Faultless us t ds k c₁) (sym (add-one i))
        (record {
          place = omega (arith, ec, after-le (length us) c d.op f.place);
          parts = (parts_next (length t) d is f.parts).1;
          rest =
              ap (λ (k : ℕ). check us k (map (op_of t) (drop (suc i) ds))) (ec ∙ sym (after_is us t c (says d.attrs) d.op))
              ∙ sym (check-on us c (op_of t d) (map (op_of t) (drop (suc i) ds)) (fault-is us t c (says d.attrs) d.op ∙ sym e ∙ none))
              ∙ same;
        })

  pub faultless-end : length ds ≤ i → 0 ≡ check us 0 (map (op_of t) ds)
  faultless-end h = ap (λ (l : List DeltaOp). check us c (map (op_of t) l)) (sym (drop_of_length-le ds h)) ∙ f.rest

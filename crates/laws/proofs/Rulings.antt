-- Every call is its ruling, decided; and each refusal number is given exactly when its reason holds and none that comes before it.
use Prim.Native.Nat.{ℕ, ◌+◌, ◌≤◌, ◌<◌, min}
use mathlib.Core.Path.{◌≡◌, refl, sym, ap, ◌∙◌}
use mathlib.Core.Bool.{Bool, true, false, cond, not, ◌&&◌, ◌||◌, false≢true, true≢false}
use mathlib.Core.List.{List, [], ◌∷◌}
use mathlib.Core.Logic.{◌↔◌, ◌⊎◌, inl, inr}
use native.Mathlib.Omega.{arith}
use lib.Dec.{eqb, leb, ltb}
use lib.ListN.{length, length-map}
use borrow.Author.Tests.{eqb-true, eqb-false, leb-true, leb-false, le-leb, ltb-true, ltb-false}
use Rattle.units.specs.Surrogates.{paired, splits_pair}
use Rattle.rules.specs.Sheet.{rested, begin}
use Rattle.rules.specs.Reading.{Op, insert, delete, retain}
use Rattle.rules.specs.Places.{At, whole, stay}
use Rattle.rules.specs.Calls.{Sheet, Outcome, refuse, bad_range, too_long, roomy, Body, words, object, Call, insert_text, insert_text_with, insert_embed, insert_embed_with, format_range, remove_range, apply_delta, begin_now, check, call}
use Rattle.rules.specs.Rulings.{Within, seen, ruling, decided, unwhole, in_pair, too_far, crowded, Exactly, fault_at, behind, FirstFault, here, later, NoFault, end, on}
use Rattle.laws.proofs.Lists.{and_both}

-- The refusal of one that is refused at all, from up to three tests
three : (a b d : Bool) (s : Sheet) (go : Outcome)
    → cond a (refuse 3 s) (cond b (refuse 2 s) (cond d (refuse 1 s) go)) ≡ cond (eqb (cond a 3 (cond b 2 (cond d 1 0))) 0) go (refuse (cond a 3 (cond b 2 (cond d 1 0))) s)
three true b d s go = refl
three false true d s go = refl
three false false true s go = refl
three false false false s go = refl

-- what keeps the limits is accepted
roomy-within : (p : At) (us : List ℕ) (s : Sheet) → length (whole p) ≤ 2048 → length us ≤ 16384 → roomy p us s ≡ record { refusal = 0; sheet = record { items = whole p; next = p.next; units = us } }
roomy-within p us s h h' =
    ap (λ (b : Bool). cond b (record { refusal = 0; sheet = record { items = whole p; next = p.next; units = us } }) (refuse 4 s))
    (and_both (leb (length (whole p)) 2048) (leb (length us) 16384) (le-leb (length (whole p)) 2048 h) (le-leb (length us) 16384 h'))

-- Every call is its ruling, decided.
pub call-is : (c : Call) (s : Sheet) → Within s → call c s ≡ decided (ruling c s) s
call-is (insert_text i []) s w = sym (roomy-within (stay s.items s.next) s.units s w.items w.units)
call-is (insert_text i (u ∷ us)) s w = three (not (paired (u ∷ us))) (splits_pair (seen s) i) false s _
call-is (insert_text_with i [] a) s w = sym (roomy-within (stay s.items s.next) s.units s w.items w.units)
call-is (insert_text_with i (u ∷ us) a) s w = three (not (paired (u ∷ us))) (splits_pair (seen s) i) false s _
call-is (insert_embed i e) s w = three false (splits_pair (seen s) i) false s _
call-is (insert_embed_with i e a) s w = three false (splits_pair (seen s) i) false s _
call-is (format_range i n a) s w = three false (bad_range (seen s) i n) false s _
call-is (remove_range i n) s w = three false (bad_range (seen s) i n) (too_long (seen s) i n) s _
call-is (apply_delta ops) s w = refl
call-is begin_now s w = sym (roomy-within (stay (begin s.items) s.next) s.units s (omega (arith, length-map s.items rested, w.items)) w.units)

-- A fault is 3, 2, 1 or none, by the first reason that holds
check-small : (us : List ℕ) (c : ℕ) (ops : List (Op Body)) → check us c ops ≤ 3
check-small us c [] = omega arith
check-small us c (insert (words t) a ∷ ops) = go (paired t) (check-small us c ops)
  where
    go : (b : Bool) → check us c ops ≤ 3 → cond b (check us c ops) 3 ≤ 3
    go true h = h
    go false h = omega arith
check-small us c (insert (object e) a ∷ ops) = check-small us c ops
check-small us c (delete n ∷ ops) = go (splits_pair us (c + n)) (too_long us c n) (check-small us (min (length us) (c + n)) ops)
  where
    go : (b b' : Bool) → check us (min (length us) (c + n)) ops ≤ 3 → cond b 2 (cond b' 1 (check us (min (length us) (c + n)) ops)) ≤ 3
    go true b' h = omega arith
    go false true h = omega arith
    go false false h = h
check-small us c (retain n a ∷ ops) = go (splits_pair us (c + n)) (check-small us (min (length us) (c + n)) ops)
  where
    go : (b : Bool) → check us (min (length us) (c + n)) ops ≤ 3 → cond b 2 (check us (min (length us) (c + n)) ops) ≤ 3
    go true h = omega arith
    go false h = h

by_number : (r : ℕ) → r ≤ 3 → r ≡ cond (eqb r 3) 3 (cond (eqb r 2) 2 (cond (eqb r 1) 1 0))
by_number r h = go (eqb r 3) refl (eqb r 2) refl (eqb r 1) refl
  where
    go : (a : Bool) → eqb r 3 ≡ a → (b : Bool) → eqb r 2 ≡ b → (d : Bool) → eqb r 1 ≡ d → r ≡ cond a 3 (cond b 2 (cond d 1 0))
    go true e b f d g = eqb-true r 3 e
    go false e true f d g = eqb-true r 2 f
    go false e false f true g = eqb-true r 1 g
    go false e false f false g = let x = eqb-false r 3 e in let y = eqb-false r 2 f in let z = eqb-false r 1 g in omega arith

fault-is : (c : Call) (s : Sheet) → (ruling c s).fault ≡ cond (unwhole c s) 3 (cond (in_pair c s) 2 (cond (too_far c s) 1 0))
fault-is (insert_text i []) s = refl
fault-is (insert_text i (u ∷ us)) s = refl
fault-is (insert_text_with i [] a) s = refl
fault-is (insert_text_with i (u ∷ us) a) s = refl
fault-is (insert_embed i e) s = refl
fault-is (insert_embed_with i e a) s = refl
fault-is (format_range i n a) s = refl
fault-is (remove_range i n) s = refl
fault-is (apply_delta ops) s = by_number (check (seen s) 0 ops) (check-small (seen s) 0 ops)
fault-is begin_now s = refl

room-refusal : (p : At) (us : List ℕ) (s : Sheet) → (roomy p us s).refusal ≡ cond (ltb 2048 (length (whole p)) || ltb 16384 (length us)) 4 0
room-refusal p us s = go (leb (length (whole p)) 2048) refl (leb (length us) 16384) refl (ltb 2048 (length (whole p))) refl (ltb 16384 (length us)) refl
  where
    go : (a : Bool) → leb (length (whole p)) 2048 ≡ a → (b : Bool) → leb (length us) 16384 ≡ b → (x : Bool) → ltb 2048 (length (whole p)) ≡ x → (y : Bool) → ltb 16384 (length us) ≡ y
        → (cond (a && b) (record { refusal = 0; sheet = record { items = whole p; next = p.next; units = us } }) (refuse 4 s)).refusal ≡ cond (x || y) 4 0
    go true e true f true g y h = absurd (omega (arith, leb-true (length (whole p)) 2048 e, ltb-true 2048 (length (whole p)) g))
    go true e true f false g true h = absurd (omega (arith, leb-true (length us) 16384 f, ltb-true 16384 (length us) h))
    go true e true f false g false h = refl
    go false e b f true g y h = refl
    go false e b f false g y h = absurd (omega (arith, leb-false (length (whole p)) 2048 e, ltb-false 2048 (length (whole p)) g))
    go true e false f true g y h = refl
    go true e false f false g true h = refl
    go true e false f false g false h = absurd (omega (arith, leb-false (length us) 16384 f, ltb-false 16384 (length us) h))

-- The refusal number, as an equation.
pub call-refusal : (c : Call) (s : Sheet) → Within s → (call c s).refusal ≡ cond (unwhole c s) 3 (cond (in_pair c s) 2 (cond (too_far c s) 1 (cond (crowded c s) 4 0)))
call-refusal c s w = ap (λ (o : Outcome). o.refusal) (call-is c s w) ∙ go (ruling c s).fault (unwhole c s) (in_pair c s) (too_far c s) (fault-is c s)
  where
    go : (n : ℕ) (a b d : Bool) → n ≡ cond a 3 (cond b 2 (cond d 1 0)) → (cond (eqb n 0) (roomy (ruling c s).place (ruling c s).units s) (refuse n s)).refusal ≡ cond a 3 (cond b 2 (cond d 1 (cond (crowded c s) 4 0)))
    go n true b d e = rw e refl
    go n false true d e = rw e refl
    go n false false true e = rw e refl
    go n false false false e = rw e (room-refusal (ruling c s).place (ruling c s).units s)

exactly : (a b d f : Bool) (r : ℕ) → r ≡ cond a 3 (cond b 2 (cond d 1 (cond f 4 0))) → Exactly a b d f r
exactly true b d f r e = record {
  three = (λ h. refl, λ h. e);
  two = (λ h. absurd (omega arith), λ h. absurd (true≢false h.0));
  one = (λ h. absurd (omega arith), λ h. absurd (true≢false h.0));
  four = (λ h. absurd (omega arith), λ h. absurd (true≢false h.0));
  zero = (λ h. absurd (omega arith), λ h. absurd (true≢false h.0));
  other = omega arith;
}
exactly false true d f r e = record {
  three = (λ h. absurd (omega arith), λ h. absurd (false≢true h));
  two = (λ h. (refl, refl), λ h. e);
  one = (λ h. absurd (omega arith), λ h. absurd (true≢false h.1));
  four = (λ h. absurd (omega arith), λ h. absurd (true≢false h.1));
  zero = (λ h. absurd (omega arith), λ h. absurd (true≢false h.1));
  other = omega arith;
}
exactly false false true f r e = record {
  three = (λ h. absurd (omega arith), λ h. absurd (false≢true h));
  two = (λ h. absurd (omega arith), λ h. absurd (false≢true h.1));
  one = (λ h. (refl, refl, refl), λ h. e);
  four = (λ h. absurd (omega arith), λ h. absurd (true≢false h.2));
  zero = (λ h. absurd (omega arith), λ h. absurd (true≢false h.2));
  other = omega arith;
}
exactly false false false true r e = record {
  three = (λ h. absurd (omega arith), λ h. absurd (false≢true h));
  two = (λ h. absurd (omega arith), λ h. absurd (false≢true h.1));
  one = (λ h. absurd (omega arith), λ h. absurd (false≢true h.2));
  four = (λ h. (refl, refl, refl, refl), λ h. e);
  zero = (λ h. absurd (omega arith), λ h. absurd (true≢false h.3));
  other = omega arith;
}
exactly false false false false r e = record {
  three = (λ h. absurd (omega arith), λ h. absurd (false≢true h));
  two = (λ h. absurd (omega arith), λ h. absurd (false≢true h.1));
  one = (λ h. absurd (omega arith), λ h. absurd (false≢true h.2));
  four = (λ h. absurd (omega arith), λ h. absurd (false≢true h.3));
  zero = (λ h. (refl, refl, refl, refl), λ h. e);
  other = omega arith;
}

-- Exactly when, for every call.
pub call-exactly : (c : Call) (s : Sheet) → Within s → Exactly (unwhole c s) (in_pair c s) (too_far c s) (crowded c s) (call c s).refusal
call-exactly c s w = exactly (unwhole c s) (in_pair c s) (too_far c s) (crowded c s) (call c s).refusal (call-refusal c s w)

-- What the test for room says.
pub crowded_means : (c : Call) (s : Sheet) → (crowded c s ≡ true) ↔ ((2048 < length (whole (ruling c s).place)) ⊎ (16384 < length (ruling c s).units))
crowded_means c s = (over (ltb 2048 n) refl, λ h. back h (ltb 2048 n) refl (ltb 16384 u) refl)
  where
    n : ℕ
    n = length (whole (ruling c s).place)

    u : ℕ
    u = length (ruling c s).units

    over : (b : Bool) → ltb 2048 n ≡ b → (b || ltb 16384 u) ≡ true → (2048 < n) ⊎ (16384 < u)
    over true e h = inl (ltb-true 2048 n e)
    over false e h = inr (ltb-true 16384 u h)

    back : (2048 < n) ⊎ (16384 < u) → (b : Bool) → ltb 2048 n ≡ b → (b' : Bool) → ltb 16384 u ≡ b' → (b || b') ≡ true
    back h true e b' e' = refl
    back h false e true e' = refl
    back (inl h) false e false e' = absurd (omega (arith, ltb-false 2048 n e))
    back (inr h) false e false e' = absurd (omega (arith, ltb-false 16384 u e'))

-- A delta's fault is that of its first faulty operation.
check-step : (us : List ℕ) (c : ℕ) (op : Op Body) (ops : List (Op Body)) → check us c (op ∷ ops) ≡ cond (eqb (fault_at us c op) 0) (check us (behind us c op) ops) (fault_at us c op)
check-step us c (insert (words t) a) ops = go (paired t)
  where
    go : (b : Bool) → cond b (check us c ops) 3 ≡ cond (eqb (cond b 0 3) 0) (check us c ops) (cond b 0 3)
    go true = refl
    go false = refl
check-step us c (insert (object e) a) ops = refl
check-step us c (delete n) ops = go (splits_pair us (c + n)) (too_long us c n)
  where
    go : (b b' : Bool) → cond b 2 (cond b' 1 (check us (min (length us) (c + n)) ops)) ≡ cond (eqb (cond b 2 (cond b' 1 0)) 0) (check us (min (length us) (c + n)) ops) (cond b 2 (cond b' 1 0))
    go true b' = refl
    go false true = refl
    go false false = refl
check-step us c (retain n a) ops = go (splits_pair us (c + n))
  where
    go : (b : Bool) → cond b 2 (check us (min (length us) (c + n)) ops) ≡ cond (eqb (cond b 2 0) 0) (check us (min (length us) (c + n)) ops) (cond b 2 0)
    go true = refl
    go false = refl

pub faulty : (us : List ℕ) (r c : ℕ) (ops : List (Op Body)) → 0 < r → (check us c ops ≡ r) ↔ FirstFault us r c ops
faulty us r c ops h = (find c ops, back)
  where
    find : (c : ℕ) (ops : List (Op Body)) → check us c ops ≡ r → FirstFault us r c ops
    find c [] e = absurd (omega arith)
    find c (op ∷ ops) e = go (eqb (fault_at us c op) 0) refl (sym (check-step us c op ops) ∙ e) (find (behind us c op) ops)
      where
        go : (b : Bool) → eqb (fault_at us c op) 0 ≡ b → cond b (check us (behind us c op) ops) (fault_at us c op) ≡ r → (check us (behind us c op) ops ≡ r → FirstFault us r (behind us c op) ops) → FirstFault us r c (op ∷ ops)
        go true q e ih = later (eqb-true (fault_at us c op) 0 q) (ih e)
        go false q e ih = here e

    back : {c : ℕ} {ops : List (Op Body)} → FirstFault us r c ops → check us c ops ≡ r
    back (here {c} {op} {ops} e) = check-step us c op ops ∙ go (eqb (fault_at us c op) 0) refl
      where
        go : (b : Bool) → eqb (fault_at us c op) 0 ≡ b → cond b (check us (behind us c op) ops) (fault_at us c op) ≡ r
        go true q = absurd (omega (arith, eqb-true (fault_at us c op) 0 q))
        go false q = e
    back (later {c} {op} {ops} e f) = check-step us c op ops ∙ ap (λ (n : ℕ). cond (eqb n 0) (check us (behind us c op) ops) n) e ∙ back f

pub faultless : (us : List ℕ) (c : ℕ) (ops : List (Op Body)) → (check us c ops ≡ 0) ↔ NoFault us c ops
faultless us c ops = (find c ops, back)
  where
    find : (c : ℕ) (ops : List (Op Body)) → check us c ops ≡ 0 → NoFault us c ops
    find c [] e = end
    find c (op ∷ ops) e = go (eqb (fault_at us c op) 0) refl (sym (check-step us c op ops) ∙ e) (find (behind us c op) ops)
      where
        go : (b : Bool) → eqb (fault_at us c op) 0 ≡ b → cond b (check us (behind us c op) ops) (fault_at us c op) ≡ 0 → (check us (behind us c op) ops ≡ 0 → NoFault us (behind us c op) ops) → NoFault us c (op ∷ ops)
        go true q e ih = on (eqb-true (fault_at us c op) 0 q) (ih e)
        go false q e ih = absurd (eqb-false (fault_at us c op) 0 q e)

    back : {c : ℕ} {ops : List (Op Body)} → NoFault us c ops → check us c ops ≡ 0
    back end = refl
    back (on {c} {op} {ops} e f) = check-step us c op ops ∙ ap (λ (n : ℕ). cond (eqb n 0) (check us (behind us c op) ops) n) e ∙ back f

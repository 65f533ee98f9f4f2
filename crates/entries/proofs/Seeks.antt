-- The comparison is equality, and the search finds the one place where an entry stands. Assumes nothing.
use Prim.Native.Nat.{ℕ, zero, suc, ◌+◌, ◌<◌, ◌≤◌}
use native.Mathlib.Omega.{arith}
use mathlib.Core.Path.{◌≡◌, refl, sym, ap, ap₂, ◌∙◌}
use mathlib.Core.Bool.{Bool, true, false, cond}
use mathlib.Core.List.{List, [], ◌∷◌, ◌++◌}
use lib.ListN.{length, get_or, length-append}
use lib.Dec.{eqb, ltb}
use borrow.Author.Tests.{eqb-true, eq-eqb, ltb-false, lt-ltb, le-ltb}
use Rattle.std.specs.Prelude.{Option, Some, None, MatchOption, is_some}
use Rattle.entries.specs.Entry.{same_bytes, seek, among}
use Rattle.entries.specs.Order.{distinct}

pub same_refl : (a : List ℕ) → same_bytes a a ≡ true
unfolding same_bytes
same_refl [] = refl
same_refl (x ∷ a) = rw (eq-eqb x x refl) (same_refl a)

pub same_true : (a b : List ℕ) → same_bytes a b ≡ true → a ≡ b
unfolding same_bytes
same_true [] [] e = refl
same_true [] (y ∷ b) e = absurd (let z : ◌≡◌ {A = ℕ} 0 1 = cc in omega arith)
same_true (x ∷ a) [] e = absurd (let z : ◌≡◌ {A = ℕ} 0 1 = cc in omega arith)
same_true (x ∷ a) (y ∷ b) e = go (eqb x y) refl e (same_true a b)
  where
    go : (t : Bool) → eqb x y ≡ t → cond t (same_bytes a b) false ≡ true → (same_bytes a b ≡ true → a ≡ b) → x ∷ a ≡ y ∷ b
    go true f p ih = ap₂ (λ (u : ℕ) (v : List ℕ). u ∷ v) (eqb-true x y f) (ih p)
    go false f p ih = absurd (let z : ◌≡◌ {A = ℕ} 0 1 = cc in omega arith)

pub same_false : (a b : List ℕ) → same_bytes a b ≡ false → same_bytes b a ≡ false
same_false a b e = go (same_bytes b a) refl
  where
    go : (t : Bool) → same_bytes b a ≡ t → same_bytes b a ≡ false
    go false f = f
    go true f =
        let g : a ≡ b = sym (same_true b a f) in
        let h : same_bytes a b ≡ true = ap (same_bytes a) (sym g) ∙ same_refl a in
        absurd (let z : ◌≡◌ {A = ℕ} 0 1 = cc in omega arith)

pub seek-le : (e : List ℕ) (es : List (List ℕ)) → seek e es ≤ length es
unfolding seek
seek-le e [] = omega arith
seek-le e (x ∷ es) = go (same_bytes x e) (seek-le e es)
  where
    go : (t : Bool) → seek e es ≤ length es → cond t 0 (suc (seek e es)) ≤ suc (length es)
    go true h = omega arith
    go false h = omega arith

-- what is found is what was looked for
pub seek-at : (e : List ℕ) (es : List (List ℕ)) → seek e es < length es → get_or es (seek e es) [] ≡ e
unfolding seek
seek-at e [] h = absurd (omega arith)
seek-at e (x ∷ es) h = go (same_bytes x e) refl (seek-at e es) h
  where
    go : (t : Bool) → same_bytes x e ≡ t → (seek e es < length es → get_or es (seek e es) [] ≡ e)
        → cond t 0 (suc (seek e es)) < suc (length es) → get_or (x ∷ es) (cond t 0 (suc (seek e es))) [] ≡ e
    go true f ih p = same_true x e f
    go false f ih p = ih (omega arith)

-- no two entries are equal: each is found where it stands
pub seek_own : (es : List (List ℕ)) (i : ℕ) → distinct es ≡ true → i < length es → seek (get_or es i []) es ≡ i
unfolding seek distinct among
seek_own [] i d h = absurd (omega arith)
seek_own (x ∷ es) zero d h = rw (same_refl x)
seek_own (x ∷ es) (suc i) d h = go (ltb (seek x es) (length es)) refl d (seek_own es i)
  where
    go : (t : Bool) → ltb (seek x es) (length es) ≡ t → cond t false (distinct es) ≡ true
        → (distinct es ≡ true → i < length es → seek (get_or es i []) es ≡ i)
        → cond (same_bytes x (get_or es i [])) 0 (suc (seek (get_or es i []) es)) ≡ suc i
    go true f p ih = absurd (let z : ◌≡◌ {A = ℕ} 0 1 = cc in omega arith)
    go false f p ih = own (same_bytes x (get_or es i [])) refl
      where
        own : (u : Bool) → same_bytes x (get_or es i []) ≡ u → cond u 0 (suc (seek (get_or es i []) es)) ≡ suc i
        own true g =
            let same : x ≡ get_or es i [] = same_true x (get_or es i []) g in
            let found : seek x es ≡ i = ap (λ (e : List ℕ). seek e es) same ∙ ih p (omega arith) in
            absurd (omega (arith, ltb-false (seek x es) (length es) f))
        own false g = ap suc (ih p (omega arith))

-- a search that answers a place has found the entry
pub found_among : (e : List ℕ) (es : List (List ℕ)) (n : ℕ) → length es ≡ n → (r : Option ℕ) → MatchOption r (seek e es ≡ n) (λ i. (i < n) × (seek e es ≡ i))
    → is_some r ≡ among e es
unfolding among
found_among e es n l None h = sym (le-ltb (seek e es) (length es) (omega arith))
found_among e es n l (Some i) h = sym (lt-ltb (seek e es) (length es) (omega arith))

-- ---- one entry more
pub seek-more : (e : List ℕ) (es : List (List ℕ)) → seek e es ≡ length es → seek e (es ++ e ∷ []) ≡ length es
unfolding seek
seek-more e [] h = rw (same_refl e)
seek-more e (x ∷ es) h = go (same_bytes x e) h (seek-more e es)
  where
    go : (t : Bool) → cond t 0 (suc (seek e es)) ≡ suc (length es) → (seek e es ≡ length es → seek e (es ++ e ∷ []) ≡ length es)
        → cond t 0 (suc (seek e (es ++ e ∷ []))) ≡ suc (length es)
    go true p ih = absurd (omega arith)
    go false p ih = ap suc (ih (omega arith))

seek-past : (x e : List ℕ) (es : List (List ℕ)) → seek x es ≡ length es → same_bytes e x ≡ false → seek x (es ++ e ∷ []) ≡ suc (length es)
unfolding seek
seek-past x e [] h g = rw g
seek-past x e (y ∷ es) h g = go (same_bytes y x) h (λ p. seek-past x e es p g)
  where
    go : (t : Bool) → cond t 0 (suc (seek x es)) ≡ suc (length es) → (seek x es ≡ length es → seek x (es ++ e ∷ []) ≡ suc (length es))
        → cond t 0 (suc (seek x (es ++ e ∷ []))) ≡ suc (suc (length es))
    go true p ih = absurd (omega arith)
    go false p ih = ap suc (ih (omega arith))

pub distinct_more : (e : List ℕ) (es : List (List ℕ)) → distinct es ≡ true → seek e es ≡ length es → distinct (es ++ e ∷ []) ≡ true
unfolding distinct among seek
distinct_more e [] d h = refl
distinct_more e (x ∷ es) d h = go (ltb (seek x es) (length es)) refl d (same_bytes x e) refl h (distinct_more e es)
  where
    go : (t : Bool) → ltb (seek x es) (length es) ≡ t → cond t false (distinct es) ≡ true
        → (u : Bool) → same_bytes x e ≡ u → cond u 0 (suc (seek e es)) ≡ suc (length es)
        → (distinct es ≡ true → seek e es ≡ length es → distinct (es ++ e ∷ []) ≡ true)
        → cond (ltb (seek x (es ++ e ∷ [])) (length (es ++ e ∷ []))) false (distinct (es ++ e ∷ [])) ≡ true
    go true f p u g q ih = absurd (let z : ◌≡◌ {A = ℕ} 0 1 = cc in omega arith)
    go false f p true g q ih = absurd (omega arith)
    go false f p false g q ih =
        let out : seek x es ≡ length es = omega (arith, seek-le x es, ltb-false (seek x es) (length es) f) in
        let past = seek-past x e es out (same_false x e g) in
        let long : length (es ++ e ∷ []) ≡ length es + 1 = length-append es (e ∷ []) in
        rw (le-ltb (seek x (es ++ e ∷ [])) (length (es ++ e ∷ [])) (omega arith)) (ih p (omega arith))

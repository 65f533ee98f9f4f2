-- Plain and joined runs, written out, are the cells; neighbouring joined text runs differ in some attribute;
-- and a run's keys are those with a value, ascending, each once.
use Prim.Native.Nat.{ℕ, suc, ◌≤◌, ◌<◌}
use mathlib.Core.Path.{◌≡◌, refl, sym, ap, ◌∙◌}
use mathlib.Core.Bool.{Bool, true, false, cond, ◌&&◌, true≢false}
use mathlib.Core.List.{List, [], ◌∷◌, ◌++◌, append_assoc, append-nil}
use mathlib.Core.Logic.{◌↔◌}
use native.Mathlib.Omega.{arith}
use lib.Dec.{eqb}
use borrow.Author.Tests.{eqb-true, eqb-false}
use Rattle.sets.specs.Sets.{Env, none, keys, same_force}
use Rattle.rules.specs.Sheet.{What, text, embed, mark, Item}
use Rattle.rules.specs.Reading.{live, Glyph, thing, units_of, Cell, paint, cells}
use Rattle.rules.specs.Runs.{Chunk, words, object, Run, pack, runs_from, runs, is_text, glyphs_of, mergeable, merged, ahead, joined, keys_of, run_keys}
use Rattle.laws.proofs.Lists.{paint-append, In, here, there, and_left, and_right}
use Rattle.laws.proofs.Places.{item}

abbrev pub run_cells : ℕ → List Run → List Cell
run_cells j [] = []
run_cells j (r ∷ rs) = paint (r.force j) (glyphs_of r.chunk) ++ run_cells j rs

module _ (j : ℕ) where
  packed : (b : List Glyph) (e : Env) (rs : List Run) → run_cells j (pack b e ++ rs) ≡ paint (e j) b ++ run_cells j rs
  packed [] e rs = refl
  packed (g ∷ b) e rs = refl

  run-item : (k : ℕ) (w : What) (d x g : Bool) (b : List Glyph) (e : Env) (l : List Item)
      → ((b : List Glyph) (e : Env) → run_cells j (runs_from b e l) ≡ paint (e j) b ++ cells live j (e j) l)
      → run_cells j (runs_from b e (item k w d x g ∷ l)) ≡ paint (e j) b ++ cells live j (e j) (item k w d x g ∷ l)
  run-item k w true x g b e l ih = ih b e
  run-item k (text s n) false x g b e l ih = ih (b ++ units_of s n) e ∙ ap (λ (z : List Cell). z ++ cells live j (e j) l) (paint-append (e j) b (units_of s n)) ∙ append_assoc (paint (e j) b) (paint (e j) (units_of s n)) (cells live j (e j) l)
  run-item k (embed u) false x g b e l ih = packed b e (record { chunk = object u; force = e } ∷ runs_from [] e l) ∙ ap (λ (z : List Cell). paint (e j) b ++ (record { glyph = thing u; value = e j } ∷ z)) (ih [] e)
  run-item k (mark c u) false x g b e l ih = packed b e (runs_from [] (λ k. cond (eqb k c) u (e k)) l) ∙ ap (λ (z : List Cell). paint (e j) b ++ z) (ih [] (λ k. cond (eqb k c) u (e k)))

  runs-from : (l : List Item) (b : List Glyph) (e : Env) → run_cells j (runs_from b e l) ≡ paint (e j) b ++ cells live j (e j) l
  runs-from [] b e = ap (run_cells j) (sym (append-nil (pack b e))) ∙ packed b e []
  runs-from (i ∷ l) b e = run-item i.num i.what i.flags.dead i.flags.added i.flags.gone b e l (runs-from l)

  pub runs-cells : (l : List Item) → run_cells j (runs l) ≡ cells live j 0 l
  runs-cells l = runs-from l [] none

  same_at : (ks : List ℕ) (e f : Env) → In j ks → same_force ks e f ≡ true → e j ≡ f j
  same_at [] e f i h = elim i [ ]
  same_at (k ∷ ks) e f (here q) h = rw q (eqb-true (e k) (f k) (and_left _ _ h))
  same_at (k ∷ ks) e f (there i) h = same_at ks e f i (and_right (eqb (e k) (f k)) _ h)

  ahead-cells : In j keys → (r : Run) (rs : List Run) → run_cells j (ahead r rs) ≡ run_cells j (r ∷ rs)
  ahead-cells jk r [] = refl
  ahead-cells jk r (s ∷ rs) = go (mergeable r s) refl
    where
      go : (b : Bool) → mergeable r s ≡ b → run_cells j (cond b (merged r s ∷ rs) (r ∷ s ∷ rs)) ≡ run_cells j (r ∷ s ∷ rs)
      go false q = refl
      go true q =
          ap (λ (z : List Cell). z ++ run_cells j rs) (paint-append (s.force j) (glyphs_of r.chunk) (glyphs_of s.chunk))
          ∙ append_assoc (paint (s.force j) (glyphs_of r.chunk)) (paint (s.force j) (glyphs_of s.chunk)) (run_cells j rs)
          ∙ ap (λ (z : ℕ). paint z (glyphs_of r.chunk) ++ (paint (s.force j) (glyphs_of s.chunk) ++ run_cells j rs)) (sym (same_at keys r.force s.force jk (and_right (is_text r.chunk && is_text s.chunk) _ q)))

  pub joined-cells : In j keys → (rs : List Run) → run_cells j (joined rs) ≡ run_cells j rs
  joined-cells jk [] = refl
  joined-cells jk (r ∷ rs) = ahead-cells jk r (joined rs) ∙ ap (λ (z : List Cell). paint (r.force j) (glyphs_of r.chunk) ++ z) (joined-cells jk rs)

-- no two neighbours could be merged
pub data Maximal : List Run → Type 0 where
  none_left : Maximal []
  one_left : {r : Run} → Maximal (r ∷ [])
  apart : {r s : Run} {rs : List Run} → mergeable r s ≡ false → Maximal (s ∷ rs) → Maximal (r ∷ s ∷ rs)

text_both : (x y : Chunk) (b : Bool) → (is_text x && is_text y && b) ≡ true → is_text y ≡ true
text_both (words a) (words c) b h = refl
text_both (words a) (object c) b h = h
text_both (object a) (words c) b h = refl
text_both (object a) (object c) b h = h

merged-first : (r s : Run) (rs : List Run) → mergeable r s ≡ true → Maximal (s ∷ rs) → Maximal (merged r s ∷ rs)
merged-first r s rs h one_left = one_left
merged-first r s rs h (apart {s = t} q m) = apart (ap (λ (b : Bool). b && is_text t.chunk && same_force keys s.force t.force) (sym (text_both r.chunk s.chunk _ h)) ∙ q) m

ahead_maximal : (r : Run) (rs : List Run) → Maximal rs → Maximal (ahead r rs)
ahead_maximal r [] m = one_left
ahead_maximal r (s ∷ rs) m = go (mergeable r s) refl
  where
    go : (b : Bool) → mergeable r s ≡ b → Maximal (cond b (merged r s ∷ rs) (r ∷ s ∷ rs))
    go true q = merged-first r s rs q m
    go false q = apart q m

pub joined_maximal : (rs : List Run) → Maximal (joined rs)
joined_maximal [] = none_left
joined_maximal (r ∷ rs) = ahead_maximal r (joined rs) (joined_maximal rs)

-- where two are not the same, some key tells
differ-at : (ks : List ℕ) (e f : Env) → same_force ks e f ≡ false → (k : ℕ) × In k ks × (e k ≡ f k → ⊥)
differ-at [] e f h = absurd (true≢false h)
differ-at (k ∷ ks) e f h = go (eqb (e k) (f k)) refl h (differ-at ks e f)
  where
    go : (b : Bool) → eqb (e k) (f k) ≡ b → (b && same_force ks e f) ≡ false → (same_force ks e f ≡ false → (k : ℕ) × In k ks × (e k ≡ f k → ⊥)) → (j : ℕ) × In j (k ∷ ks) × (e j ≡ f j → ⊥)
    go false q h ih = (k, here refl, eqb-false (e k) (f k) q)
    go true q h ih = let r = ih h in (r.0, there r.1, r.2)

-- Two neighbouring joined runs, both text, differ in some attribute.
pub apart_differ : (r s : Run) → mergeable r s ≡ false → is_text r.chunk ≡ true → is_text s.chunk ≡ true → (k : ℕ) × In k keys × (r.force k ≡ s.force k → ⊥)
apart_differ r s h e f = differ-at keys r.force s.force (ap (λ (b : Bool). true && b && same_force keys r.force s.force) (sym f) ∙ ap (λ (b : Bool). b && is_text s.chunk && same_force keys r.force s.force) (sym e) ∙ h)

-- A run's keys are exactly the keys with a value ..
pub keys-with-value : (ks : List ℕ) (e : Env) (j : ℕ) → In j (keys_of ks e) ↔ (In j ks × (0 < e j))
keys-with-value ks e j = (from ks, λ h. back ks h.0 h.1)
  where
    from : (ks : List ℕ) → In j (keys_of ks e) → In j ks × (0 < e j)
    from [] h = elim h [ ]
    from (k ∷ ks) h = go (eqb (e k) 0) refl h (from ks)
      where
        go : (b : Bool) → eqb (e k) 0 ≡ b → In j (cond b (keys_of ks e) (k ∷ keys_of ks e)) → (In j (keys_of ks e) → In j ks × (0 < e j)) → In j (k ∷ ks) × (0 < e j)
        go true q h ih = (there (ih h).0, (ih h).1)
        go false q (here z) ih = let n = eqb-false (e k) 0 q in let m : e j ≡ e k = ap e z in (here z, omega arith)
        go false q (there h) ih = (there (ih h).0, (ih h).1)

    back : (ks : List ℕ) → In j ks → 0 < e j → In j (keys_of ks e)
    back [] i h = elim i [ ]
    back (k ∷ ks) (here z) h = go (eqb (e k) 0) refl
      where
        go : (b : Bool) → eqb (e k) 0 ≡ b → In j (cond b (keys_of ks e) (k ∷ keys_of ks e))
        go true q = let n : e j ≡ e k = ap e z in absurd (omega (arith, eqb-true (e k) 0 q))
        go false q = here z
    back (k ∷ ks) (there i) h = go (eqb (e k) 0) (back ks i h)
      where
        go : (b : Bool) → In j (keys_of ks e) → In j (cond b (keys_of ks e) (k ∷ keys_of ks e))
        go true ih = ih
        go false ih = there ih

-- .. ascending, so each once: the count is their number.
abbrev pub Above : ℕ → List ℕ → Type 0
Above m [] = Unit {0}
Above m (k ∷ ks) = (m ≤ k) × Above (suc k) ks

above-less : (ks : List ℕ) (m n : ℕ) → m ≤ n → Above n ks → Above m ks
above-less [] m n h a = tt
above-less (k ∷ ks) m n h a = (omega (arith, a.0), a.1)

above-keys : (ks : List ℕ) (m : ℕ) (e : Env) → Above m ks → Above m (keys_of ks e)
above-keys [] m e a = tt
above-keys (k ∷ ks) m e a = go (eqb (e k) 0) (above-keys ks (suc k) e a.1)
  where
    go : (b : Bool) → Above (suc k) (keys_of ks e) → Above m (cond b (keys_of ks e) (k ∷ keys_of ks e))
    go true ih = above-less (keys_of ks e) m (suc k) (omega (arith, a.0)) ih
    go false ih = (a.0, ih)

keys_ascend : Above 0 keys
unfolding keys
keys_ascend = (omega arith, (omega arith, (omega arith, (omega arith, (omega arith, (omega arith, (omega arith, (omega arith, (omega arith, (omega arith, (omega arith, (omega arith, (omega arith, (omega arith, (omega arith, (omega arith, tt))))))))))))))))

pub run-keys : (r : Run) → Above 0 (run_keys r) × ((j : ℕ) → In j (run_keys r) ↔ (In j keys × (0 < r.force j)))
run-keys r = (above-keys keys 0 r.force keys_ascend, keys-with-value keys r.force)

-- Where a text may be cut: PAIR's test on the visible units says that no cut at an index falls inside a pair of the sheet's units.
use Prim.Native.Nat.{ℕ, zero, suc, ◌+◌, ◌-◌, ◌≤◌, ◌<◌}
use mathlib.Core.Path.{◌≡◌, refl, sym, ap, ◌∙◌, subst}
use mathlib.Core.Bool.{Bool, true, false, cond, ◌&&◌}
use mathlib.Core.List.{List, [], ◌∷◌, ◌++◌, map, append_assoc}
use native.Mathlib.Nat.{add-suc}
use native.Mathlib.Omega.{arith}
use lib.ListN.{length, get_or, take, drop, length-append, take-append-drop}
use lib.Seq.{length-take-le}
use Rattle.units.specs.Surrogates.{is_high, is_low, splits_pair}
use Rattle.rules.specs.Sheet.{Item}
use Rattle.rules.specs.Reading.{Seen, live, Glyph, unit, units_of, glyphs, Cell, paint, cells, force, pass_key, seen_glyphs}
use Rattle.rules.specs.Places.{At, place}
use Rattle.rules.specs.Calls.{unit_at}
use Rattle.rules.specs.Scripts.{seen_by}
use Rattle.laws.proofs.Places.{Reads, place-reads, units_add}

-- no cut at index n of these glyphs is forbidden
abbrev pub Clean : (ℕ → Type 0) → List Glyph → ℕ → Type 0
Clean C gs n = (a b : List Glyph) (p : ℕ) → gs ≡ a ++ (unit p ∷ unit (suc p) ∷ b) → suc (length a) ≡ n → C (suc p)

pub clean-past : (C : ℕ → Type 0) (a gs : List Glyph) (n : ℕ) → length a ≤ n → Clean C (a ++ gs) n → Clean C gs (n - length a)
clean-past C a gs n h c b d p e l = c (a ++ b) d p (ap (λ (x : List Glyph). a ++ x) e ∙ sym (append_assoc a b (unit p ∷ unit (suc p) ∷ d))) (omega (arith, length-append a b))

pub clean-cut : (C : ℕ → Type 0) (s n w : ℕ) (gs : List Glyph) → 0 < n → n < w → Clean C (units_of s w ++ gs) n → C (s + n)
clean-cut C s zero w gs z h c = absurd (omega arith)
clean-cut C s (suc n) w gs z h c = subst C (sym (add-suc s n)) (c (units_of s n) (units_of (suc (suc (s + n))) k ++ gs) (s + n) (ap (λ (x : List Glyph). x ++ gs) parts ∙ append_assoc (units_of s n) (unit (s + n) ∷ unit (suc (s + n)) ∷ units_of (suc (suc (s + n))) k) gs) (ap suc (len s n)))
  where
    k : ℕ
    k = w - suc (suc n)

    w-is : w ≡ n + suc (suc k)
    w-is = omega arith

    parts : units_of s w ≡ units_of s n ++ (unit (s + n) ∷ unit (suc (s + n)) ∷ units_of (suc (suc (s + n))) k)
    parts = ap (units_of s) w-is ∙ units_add s n (suc (suc k))

    len : (s n : ℕ) → length (units_of s n) ≡ n
    len s zero = refl
    len s (suc n) = ap suc (len (suc s) n)

-- from PAIR's test
abbrev pub CutOk : List ℕ → ℕ → Type 0
CutOk us p = splits_pair us p ≡ false

seam : (us : List ℕ) (a b : List Glyph) (x y : Glyph) → (get_or (map (unit_at us) (a ++ (x ∷ y ∷ b))) (length a) 0 ≡ unit_at us x) × (get_or (map (unit_at us) (a ++ (x ∷ y ∷ b))) (suc (length a)) 0 ≡ unit_at us y)
seam us [] b x y = (refl, refl)
seam us (g ∷ a) b x y = seam us a b x y

pub clean_from : (us : List ℕ) (gs : List Glyph) (n : ℕ) → splits_pair (map (unit_at us) gs) n ≡ false → Clean (CutOk us) gs n
clean_from us gs zero h a b p e l = absurd (omega arith)
clean_from us gs (suc n) h a b p e l =
    let k : n ≡ length a = omega arith in
    let f : splits_pair (map (unit_at us) (a ++ (unit p ∷ unit (suc p) ∷ b))) (suc (length a)) ≡ false = subst (λ (z : ℕ). splits_pair (map (unit_at us) (a ++ (unit p ∷ unit (suc p) ∷ b))) (suc z) ≡ false) k (subst (λ (z : List Glyph). splits_pair (map (unit_at us) z) (suc n) ≡ false) e h) in
    let q = seam us a b (unit p) (unit (suc p)) in
    ap (λ (z : ℕ). is_high z && is_low (get_or us (suc p) 0)) (sym q.0) ∙ ap (λ (z : ℕ). is_high (get_or (map (unit_at us) (a ++ (unit p ∷ unit (suc p) ∷ b))) (length a) 0) && is_low z) (sym q.1) ∙ f

pub clean_drop : (C : ℕ → Type 0) (gs : List Glyph) (c n : ℕ) → c ≤ length gs → Clean C gs (c + n) → Clean C (drop c gs) n
clean_drop C gs c n h k =
    let l : length (take c gs) ≡ c = length-take-le c gs h in
    let e : c + n - length (take c gs) ≡ n = omega arith in
    subst (λ (z : ℕ). Clean C (drop c gs) z) e (clean-past C (take c gs) (drop c gs) (c + n) (omega arith) (subst (λ (z : List Glyph). Clean C z (c + n)) (sym (take-append-drop c gs)) k))

-- the glyphs of cells
abbrev pub glyphs_in : List Cell → List Glyph
glyphs_in [] = []
glyphs_in (c ∷ cs) = c.glyph ∷ glyphs_in cs

pub in-paint : (v : ℕ) (gs : List Glyph) (cs : List Cell) → glyphs_in (paint v gs ++ cs) ≡ gs ++ glyphs_in cs
in-paint v [] cs = refl
in-paint v (g ∷ gs) cs = ap (λ (x : List Glyph). g ∷ x) (in-paint v gs cs)

-- the units of a reading, from its cells
pub cells-seen : (seen : Seen) (j v : ℕ) (l : List Item) → glyphs_in (cells seen j v l) ≡ seen_by seen l
cells-seen seen j v [] = refl
cells-seen seen j v (i ∷ l) = go (seen i.flags) (cells-seen seen j (pass_key seen j i v) l)
  where
    go : (b : Bool) → glyphs_in (cells seen j (pass_key seen j i v) l) ≡ seen_by seen l
        → glyphs_in (cond b (paint v (glyphs i.what)) [] ++ cells seen j (pass_key seen j i v) l) ≡ cond b (glyphs i.what) [] ++ seen_by seen l
    go true e = in-paint v (glyphs i.what) (cells seen j (pass_key seen j i v) l) ∙ ap (λ (x : List Glyph). glyphs i.what ++ x) e
    go false e = e

pub seen-live : (l : List Item) → seen_by live l ≡ seen_glyphs l
seen-live [] = refl
seen-live (i ∷ l) = ap (λ (x : List Glyph). cond (live i.flags) (glyphs i.what) [] ++ x) (seen-live l)

pub in_cells : (j v : ℕ) (l : List Item) → glyphs_in (cells live j v l) ≡ seen_glyphs l
in_cells j v l = cells-seen live j v l ∙ seen-live l

pub in-length : (cs : List Cell) → length (glyphs_in cs) ≡ length cs
in-length [] = refl
in-length (c ∷ cs) = ap suc (in-length cs)

in-drop : (n : ℕ) (cs : List Cell) → glyphs_in (drop n cs) ≡ drop n (glyphs_in cs)
in-drop zero [] = refl
in-drop zero (c ∷ cs) = refl
in-drop (suc n) [] = refl
in-drop (suc n) (c ∷ cs) = in-drop n cs

-- what stands right of a place, from what it reads
pub seen-right : (j v : ℕ) (p : At) (x : List Cell) (n : ℕ) (l : List Item) → Reads j v p x (drop n (cells live j v l)) (force live j v l) → seen_glyphs p.right ≡ drop n (seen_glyphs l)
seen-right j v p x n l r = sym (in_cells j (force live j v p.left) p.right) ∙ ap glyphs_in r.right ∙ in-drop n (cells live j v l) ∙ ap (drop n) (in_cells j v l)

pub seen_same : (j v : ℕ) (p : At) (x : List Cell) (l : List Item) → Reads j v p x (cells live j v l) (force live j v l) → seen_glyphs p.right ≡ seen_glyphs l
seen_same j v p x l r = sym (in_cells j (force live j v p.left) p.right) ∙ ap glyphs_in r.right ∙ in_cells j v l

pub place-seen : (n : ℕ) (l : List Item) (m : ℕ) → seen_glyphs (place n l m).right ≡ drop n (seen_glyphs l)
place-seen n l m = seen-right 0 0 (place n l m) _ n l (place-reads 0 n l m 0)

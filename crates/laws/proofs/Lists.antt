-- Small facts that many files use: painted cells and their lengths, keys among the keys, tests joined by and / or.
use Prim.Native.Nat.{ℕ, zero, suc, ◌<◌}
use mathlib.Core.Path.{◌≡◌, refl, ap, ◌∙◌}
use mathlib.Core.Bool.{Bool, true, false, ◌&&◌, ◌||◌, false≢true, true≢false}
use mathlib.Core.List.{List, [], ◌∷◌, ◌++◌, map}
use lib.ListN.{length}
use lib.Dec.{ltb}
use borrow.Author.Tests.{ltb-true}
use Rattle.sets.specs.Sets.{Slot, absent, is, Set, keys, bare, is_absent, lay}
use Rattle.rules.specs.Sheet.{What, text, embed, mark, width}
use Rattle.rules.specs.Reading.{Glyph, units_of, glyphs, Cell, paint, lay_cell}

pub paint-append : (v : ℕ) (a b : List Glyph) → paint v (a ++ b) ≡ paint v a ++ paint v b
paint-append v [] b = refl
paint-append v (g ∷ a) b = ap (λ (l : List Cell). record { glyph = g; value = v } ∷ l) (paint-append v a b)

pub length-paint : (v : ℕ) (a : List Glyph) → length (paint v a) ≡ length a
length-paint v [] = refl
length-paint v (g ∷ a) = ap suc (length-paint v a)

pub lay-paint : (s : Slot) (v : ℕ) (a : List Glyph) → map (lay_cell s) (paint v a) ≡ paint (lay s v) a
lay-paint s v [] = refl
lay-paint s v (g ∷ a) = ap (λ (l : List Cell). record { glyph = g; value = lay s v } ∷ l) (lay-paint s v a)

pub map-append : {A : Type 0} (f : A → A) (a b : List A) → map f (a ++ b) ≡ map f a ++ map f b
map-append f [] b = refl
map-append {A} f (x ∷ a) b = ap (λ (l : List A). f x ∷ l) (map-append f a b)

pub lay-absent : (a : List Cell) → map (lay_cell absent) a ≡ a
lay-absent [] = refl
lay-absent (x ∷ a) = ap (λ (l : List Cell). x ∷ l) (lay-absent a)

pub length-units : (s n : ℕ) → length (units_of s n) ≡ n
length-units s zero = refl
length-units s (suc n) = ap suc (length-units (suc s) n)

pub length-glyphs : (w : What) → length (glyphs w) ≡ width w
length-glyphs (text s n) = length-units s n
length-glyphs (embed e) = refl
length-glyphs (mark k v) = refl

-- among the keys
pub data In (j : ℕ) : List ℕ → Type 0 where
  here : {k : ℕ} {l : List ℕ} → j ≡ k → In j (k ∷ l)
  there : {k : ℕ} {l : List ℕ} → In j l → In j (k ∷ l)

is-absent : (s : Slot) → is_absent s ≡ true → s ≡ absent
is-absent absent e = refl
is-absent (is v) e = absurd (false≢true e)

pub and_left : (a b : Bool) → (a && b) ≡ true → a ≡ true
and_left true b e = refl
and_left false b e = e

pub and_right : (a b : Bool) → (a && b) ≡ true → b ≡ true
and_right true b e = e
and_right false b e = absurd (false≢true e)

pub and_both : (a b : Bool) → a ≡ true → b ≡ true → (a && b) ≡ true
and_both true b e f = f
and_both false b e f = e

pub or_left : (a b : Bool) → (a || b) ≡ false → a ≡ false
or_left true b e = e
or_left false b e = refl

pub or_right : (a b : Bool) → (a || b) ≡ false → b ≡ false
or_right true b e = absurd (true≢false e)
or_right false b e = e

-- a walk that goes on at no mark and no deleted item has length left
pub positive : (n : ℕ) (b : Bool) → (ltb 0 n || (b && false)) ≡ true → 0 < n
positive n b e = ltb-true 0 n (pick (ltb 0 n) b e)
  where
    pick : (x y : Bool) → (x || (y && false)) ≡ true → x ≡ true
    pick true y e = refl
    pick false true e = e
    pick false false e = e

pub bare-at : (j : ℕ) (ks : List ℕ) (a : Set) → In j ks → bare ks a ≡ true → a j ≡ absent
bare-at j [] a i h = elim i [ ]
bare-at j (k ∷ ks) a (here e) h = ap a e ∙ is-absent (a k) (and_left (is_absent (a k)) (bare ks a) h)
bare-at j (k ∷ ks) a (there i) h = bare-at j ks a i (and_right (is_absent (a k)) (bare ks a) h)

pub zero_key : In 0 keys
unfolding keys
zero_key = here refl

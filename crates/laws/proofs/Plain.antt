-- What is in force at a place: inside the visible text the value of the unit before it, none at index 0; past it what is in force at the list's end.
use Prim.Native.Nat.{ℕ, zero, suc, ◌-◌, ◌≤◌, ◌<◌}
use mathlib.Core.Path.{◌≡◌, refl, sym, ap, ◌∙◌}
use mathlib.Core.Bool.{Bool, true, false, cond}
use mathlib.Core.List.{List, [], ◌∷◌, ◌++◌}
use native.Mathlib.Omega.{arith}
use lib.Dec.{eqb, leb}
use lib.ListN.{length, take, length-append, length-take}
use borrow.Author.Tests.{leb-true, leb-false}
use Rattle.rules.specs.Sheet.{What, text, embed, mark, Item}
use Rattle.rules.specs.Reading.{live, Glyph, units_of, Cell, paint, cells, force, pass_key, shown}
use Rattle.rules.specs.Places.{over, split, uses, place}
use Rattle.rules.specs.Shows.{last_or, inherited}
use Rattle.laws.proofs.Places.{item, split-reads, length-shown, take_past}

last-paint : (v : ℕ) (gs : List Glyph) (cs : List Cell) → last_or v (paint v gs ++ cs) ≡ last_or v cs
last-paint v [] cs = refl
last-paint v (g ∷ gs) cs = last-paint v gs cs

last_any : (v u : ℕ) (cs : List Cell) → 0 < length cs → last_or v cs ≡ last_or u cs
last_any v u [] h = absurd (omega arith)
last_any v u (c ∷ cs) h = refl

module _ (j : ℕ) where
  last-item : (k : ℕ) (w : What) (d x g : Bool) (v n : ℕ) (l : List Item)
      → uses (item k w d x g) ≤ suc n → suc n - uses (item k w d x g) ≤ length (cells live j (pass_key live j (item k w d x g) v) l)
      → last_or v (shown live (item k w d x g) v ++ take (suc n - uses (item k w d x g)) (cells live j (pass_key live j (item k w d x g) v) l))
      ≡ last_or (pass_key live j (item k w d x g) v) (take (suc n - uses (item k w d x g)) (cells live j (pass_key live j (item k w d x g) v) l))
  last-item k w true x g v n l h h' = refl
  last-item k (text s u) false x g v n l h h' = last-paint v (units_of s u) _
  last-item k (embed e) false x g v n l h h' = refl
  last-item k (mark c u) false x g v n l h h' = last_any v (cond (eqb j c) u v) (take (suc n - 0) (cells live j (cond (eqb j c) u v) l)) (omega (arith, length-take (suc n - 0) (cells live j (cond (eqb j c) u v) l)))

  cut-force : (k : ℕ) (w : What) (d x g : Bool) (n : ℕ) (l : List Item) (m v : ℕ) → suc n < uses (item k w d x g)
      → force live j v (split (suc n) (item k w d x g) l m).left ≡ last_or v (take (suc n) (cells live j v (item k w d x g ∷ l)))
  cut-force k w true x g n l m v h = absurd (omega arith)
  cut-force k (text s u) false x g n l m v h = sym (ap (last_or v) (sym (split-reads j k s u x g (suc n) l m v (omega arith)).left) ∙ last-paint v (units_of s (suc n)) [])
  cut-force k (embed e) false x g n l m v h = absurd (omega arith)
  cut-force k (mark c u) false x g n l m v h = absurd (omega arith)

  -- what is in force at a place inside the visible text is what the unit before it has
  pub place-force : (n : ℕ) (l : List Item) (m v : ℕ) → n ≤ length (cells live j v l) → force live j v (place n l m).left ≡ last_or v (take n (cells live j v l))
  place-force zero [] m v h = refl
  place-force (suc n) [] m v h = absurd (omega arith)
  place-force zero (i ∷ l) m v h = refl
  place-force (suc n) (i ∷ l) m v h = go (leb (uses i) (suc n)) refl (place-force (suc n - uses i) l m (pass_key live j i v))
    where
      cs : List Cell
      cs = cells live j (pass_key live j i v) l

      len : length (shown live i v) ≡ uses i
      len = length-shown j i.num i.what i.flags.dead i.flags.added i.flags.gone v

      go : (b : Bool) → leb (uses i) (suc n) ≡ b
          → (suc n - uses i ≤ length cs → force live j (pass_key live j i v) (place (suc n - uses i) l m).left ≡ last_or (pass_key live j i v) (take (suc n - uses i) cs))
          → force live j v (cond b (over i (place (suc n - uses i) l m)) (split (suc n) i l m)).left ≡ last_or v (take (suc n) (shown live i v ++ cs))
      go true e ih =
          let u : uses i ≤ suc n = leb-true (uses i) (suc n) e in
          let r : suc n - uses i ≤ length cs = omega (arith, length-append (shown live i v) cs, len) in
          ih r
          ∙ sym (last-item i.num i.what i.flags.dead i.flags.added i.flags.gone v n l u r)
          ∙ ap (λ (z : ℕ). last_or v (shown live i v ++ take (suc n - z) cs)) (sym len)
          ∙ ap (last_or v) (sym (take_past (shown live i v) cs (suc n) (omega (arith, len))))
      go false e ih = cut-force i.num i.what i.flags.dead i.flags.added i.flags.gone n l m v (leb-false (uses i) (suc n) e)

  -- past the visible text the place is the list's end
  pub place-past : (n : ℕ) (l : List Item) (m v : ℕ) → length (cells live j v l) < n → (place n l m).left ≡ l
  place-past n [] m v h = refl
  place-past zero (i ∷ l) m v h = absurd (omega arith)
  place-past (suc n) (i ∷ l) m v h = go (leb (uses i) (suc n)) refl (place-past (suc n - uses i) l m (pass_key live j i v))
    where
      cs : List Cell
      cs = cells live j (pass_key live j i v) l

      len : length (shown live i v) ≡ uses i
      len = length-shown j i.num i.what i.flags.dead i.flags.added i.flags.gone v

      go : (b : Bool) → leb (uses i) (suc n) ≡ b → (length cs < suc n - uses i → (place (suc n - uses i) l m).left ≡ l)
          → (cond b (over i (place (suc n - uses i) l m)) (split (suc n) i l m)).left ≡ i ∷ l
      go true e ih = ap (λ (z : List Item). i ∷ z) (ih (omega (arith, length-append (shown live i v) cs, len, leb-true (uses i) (suc n) e)))
      go false e ih = absurd (omega (arith, length-append (shown live i v) cs, len, leb-false (uses i) (suc n) e))

  -- so plain text and plain embeds take on what is `inherited`
  pub place-inherits : (n : ℕ) (l : List Item) (m : ℕ) → force live j 0 (place n l m).left ≡ inherited j n l
  place-inherits n l m = go (leb n (length (cells live j 0 l))) refl
    where
      go : (b : Bool) → leb n (length (cells live j 0 l)) ≡ b → force live j 0 (place n l m).left ≡ cond b (last_or 0 (take n (cells live j 0 l))) (force live j 0 l)
      go true e = place-force n l m 0 (leb-true n (length (cells live j 0 l)) e)
      go false e = ap (force live j 0) (place-past n l m 0 (leb-false n (length (cells live j 0 l)) e))

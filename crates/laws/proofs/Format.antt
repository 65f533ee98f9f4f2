-- Format, seen by any key: inside its range A's value where A has the key, null removing, else as before; and nowhere else.
use Prim.Native.Nat.{ℕ, suc, ◌-◌, ◌≤◌}
use mathlib.Core.Path.{◌≡◌, refl, sym, ap, ◌∙◌, subst}
use mathlib.Core.Bool.{Bool, true, false, cond, not, false≢true, true≢false}
use mathlib.Core.List.{List, [], ◌∷◌, ◌++◌, map, append-nil}
use native.Mathlib.Nat.{sub-zero}
use native.Mathlib.Omega.{arith}
use lib.Dec.{eqb, leb, ltb}
use lib.ListN.{length, take, drop}
use lib.Seq.{take-nil, drop-nil}
use borrow.Author.Tests.{eqb-true, leb-true, leb-false, ltb-false}
use Rattle.sets.specs.Sets.{Slot, absent, is, is_absent, bare, Set, Env, none, keys, lay, slot_is}
use Rattle.rules.specs.Sheet.{What, text, embed, mark, Item, kill}
use Rattle.rules.specs.Reading.{live, Glyph, thing, units_of, Cell, paint, lay_cell, cells, force, pass_key, shown}
use Rattle.rules.specs.Places.{whole, over, and_then, split, close}
use Rattle.rules.specs.Edits.{by_index, closing, walking, remember, walks_on, format_walk, format}
use Rattle.laws.proofs.Lists.{length-paint, length-units, lay-paint, map-append, In, or_left, positive}
use Rattle.laws.proofs.Opening.{Inv, settled-reads}
use Rattle.laws.proofs.Places.{item, Reads, reads_as, reads_over, reads_then, split-reads, close-reads, index-cells, index-end, take_past, drop_past}

module _ (j : ℕ) (jk : In j keys) (a : Set) where
  -- the cells as Format leaves them
  abbrev on : ℕ → List Cell → List Cell
  on n cs = map (lay_cell (a j)) (take n cs)

  -- a mark of a key of A
  pub inv-marked : (r : Set) (k v old now : ℕ) → is_absent (a k) ≡ false → Inv (a j) (r j) old now → Inv (a j) (remember a (mark k v) r j) (cond (eqb j k) v old) now
  inv-marked r k v old now h i = go (eqb j k) refl
    where
      here₁ : (s : Slot) → is_absent s ≡ false → now ≡ lay s old → (b : Bool) → slot_is s v ≡ b → Inv s (cond b absent (is v)) v now
      here₁ absent h e b q = absurd (true≢false h)
      here₁ (is w) h e true q = record { owed = e ∙ eqb-true w v q; laid = e; only = λ h. refl }
      here₁ (is w) h e false q = record { owed = refl; laid = e; only = λ h. absurd (false≢true (ap is_absent h)) }

      go : (b : Bool) → eqb j k ≡ b → Inv (a j) (cond b (cond (slot_is (a k) v) absent (is v)) (r j)) (cond b v old) now
      go true e = subst (λ (x : ℕ). Inv (a j) (cond (slot_is (a x) v) absent (is v)) v now) (eqb-true j k e) (here₁ (a j) (ap (λ (x : ℕ). is_absent (a x)) (eqb-true j k e) ∙ h) i.laid (slot_is (a j) v) refl)
      go false e = i

  -- a mark of another key
  pub inv-other : (r : Set) (k v old now : ℕ) → is_absent (a k) ≡ true → Inv (a j) (r j) old now → Inv (a j) (r j) (cond (eqb j k) v old) (cond (eqb j k) v now)
  inv-other r k v old now h i = go (eqb j k) refl
    where
      gone : (s : Slot) → is_absent s ≡ true → s ≡ absent
      gone absent h = refl
      gone (is w) h = absurd (false≢true h)

      go : (b : Bool) → eqb j k ≡ b → Inv (a j) (r j) (cond b v old) (cond b v now)
      go true e =
          let n : a j ≡ absent = ap a (eqb-true j k e) ∙ gone (a k) h in
          record { owed = rw (i.only n) refl; laid = rw n refl; only = i.only }
      go false e = i

  abbrev Walk : ℕ → List Item → ℕ → Type 0
  Walk n l m = (n : ℕ) (r : Set) (old now : ℕ) → Inv (a j) (r j) old now → Reads j now (format_walk a n r l m) (on n (cells live j old l)) (drop n (cells live j old l)) (force live j old l)

  -- units passed inside the range
  through : (i : Item) (gs : List Glyph) (n w : ℕ) (r : Set) (l : List Item) (m old now : ℕ) → length gs ≡ w → w ≤ n → Inv (a j) (r j) old now
      → Reads j now (format_walk a (n - w) r l m) (on (n - w) (cells live j old l)) (drop (n - w) (cells live j old l)) (force live j old l)
      → shown live i now ≡ paint now gs → pass_key live j i now ≡ now
      → Reads j now (over i (format_walk a (n - w) r l m)) (on n (paint old gs ++ cells live j old l)) (drop n (paint old gs ++ cells live j old l)) (force live j old l)
  through i gs n w r l m old now len le inv ih s p =
      reads_as (ap₁ ∙ sym tk) (sym dp)
      (reads_over j now i (format_walk a (n - w) r l m) (on (n - w) cs) (drop (n - w) cs) (subst (λ (x : ℕ). Reads j x (format_walk a (n - w) r l m) (on (n - w) cs) (drop (n - w) cs) (force live j old l)) (sym p) ih))
    where
      cs : List Cell
      cs = cells live j old l

      lp : length (paint old gs) ≡ w
      lp = length-paint old gs ∙ len

      ap₁ : shown live i now ++ on (n - w) cs ≡ paint now gs ++ on (n - w) cs
      ap₁ = ap (λ (x : List Cell). x ++ on (n - w) cs) s

      tk : on n (paint old gs ++ cs) ≡ paint now gs ++ on (n - w) cs
      tk = ap (map (lay_cell (a j))) (take_past (paint old gs) cs n (omega (arith, lp)) ∙ ap (λ (x : ℕ). paint old gs ++ take (n - x) cs) lp)
          ∙ map-append (lay_cell (a j)) (paint old gs) (take (n - w) cs)
          ∙ ap (λ (x : List Cell). x ++ on (n - w) cs) (lay-paint (a j) old gs ∙ ap (λ (x : ℕ). paint x gs) (sym inv.laid))

      dp : drop n (paint old gs ++ cs) ≡ drop (n - w) cs
      dp = drop_past (paint old gs) cs n (omega (arith, lp)) ∙ ap (λ (x : ℕ). drop (n - x) cs) lp

  -- the walk's end at length 0
  stops : (n : ℕ) (r : Set) (l : List Item) (m old now : ℕ) → n ≡ 0 → Inv (a j) (r j) old now → Reads j now (close r l m) (on n (cells live j old l)) (drop n (cells live j old l)) (force live j old l)
  stops n r l m old now e inv = subst (λ (x : ℕ). Reads j now (close r l m) (on x (cells live j old l)) (drop x (cells live j old l)) (force live j old l)) (sym e) (close-reads j r l m old now jk inv.owed)

  -- text too long
  cuts : (k s w : ℕ) (x g : Bool) (n : ℕ) (r : Set) (l : List Item) (m old now : ℕ) → n ≤ w → Inv (a j) (r j) old now
      → Reads j now (and_then none (split n (item k (text s w) false x g) l m) (closing r)) (on n (cells live j old (item k (text s w) false x g ∷ l))) (drop n (cells live j old (item k (text s w) false x g ∷ l))) (force live j old (item k (text s w) false x g ∷ l))
  cuts k s w x g n r l m old now le inv =
      reads_as (append-nil _ ∙ eq) (split-reads j k s w x g n l m old le).right
      (reads_then j now none (split n i l m) (closing r) (paint now (units_of s n) ++ []) _ [] _
      (record { left = refl; right = refl; end = refl })
      (close-reads j r (split n i l m).right (suc m) old now jk inv.owed))
    where
      i : Item
      i = item k (text s w) false x g

      eq : paint now (units_of s n) ++ [] ≡ on n (cells live j old (i ∷ l))
      eq = append-nil (paint now (units_of s n)) ∙ ap (λ (x : ℕ). paint x (units_of s n)) inv.laid ∙ sym (lay-paint (a j) old (units_of s n)) ∙ ap (map (lay_cell (a j))) (sym (append-nil (paint old (units_of s n))) ∙ (split-reads j k s w x g n l m old le).left)

  walk-item : (k : ℕ) (w : What) (d x g : Bool) (n : ℕ) (r : Set) (l : List Item) (m old now : ℕ) → Inv (a j) (r j) old now → Walk n l m
      → Reads j now (format_walk a n r (item k w d x g ∷ l) m) (on n (cells live j old (item k w d x g ∷ l))) (drop n (cells live j old (item k w d x g ∷ l))) (force live j old (item k w d x g ∷ l))
  walk-item k w true x g n r l m old now inv ih = go (walks_on n r i) refl
    where
      i : Item
      i = item k w true x g

      go : (b : Bool) → walks_on n r i ≡ b → Reads j now (cond b (over i (format_walk a n r l m)) (close r (i ∷ l) m)) (on n (cells live j old l)) (drop n (cells live j old l)) (force live j old l)
      go true e = reads_over j now i (format_walk a n r l m) (on n (cells live j old l)) (drop n (cells live j old l)) (ih n r old now inv)
      go false e = stops n r (i ∷ l) m old now (omega (arith, ltb-false 0 n (or_left (ltb 0 n) _ e))) inv
  walk-item k (text s w) false x g n r l m old now inv ih = go (walks_on n r i) refl (leb w n) refl
    where
      i : Item
      i = item k (text s w) false x g

      go : (b : Bool) → walks_on n r i ≡ b → (b' : Bool) → leb w n ≡ b'
          → Reads j now (cond b (cond b' (over i (format_walk a (n - w) r l m)) (and_then none (split n i l m) (closing r))) (close r (i ∷ l) m)) (on n (cells live j old (i ∷ l))) (drop n (cells live j old (i ∷ l))) (force live j old (i ∷ l))
      go false e b' e' = stops n r (i ∷ l) m old now (omega (arith, ltb-false 0 n (or_left (ltb 0 n) _ e))) inv
      go true e true e' = through i (units_of s w) n w r l m old now (length-units s w) (leb-true w n e') inv (ih (n - w) r old now inv) refl refl
      go true e false e' = cuts k s w x g n r l m old now (omega (arith, leb-false w n e')) inv
  walk-item k (embed u) false x g n r l m old now inv ih = go (walks_on n r i) refl (leb 1 n) refl
    where
      i : Item
      i = item k (embed u) false x g

      go : (b : Bool) → walks_on n r i ≡ b → (b' : Bool) → leb 1 n ≡ b'
          → Reads j now (cond b (cond b' (over i (format_walk a (n - 1) r l m)) (and_then none (split n i l m) (closing r))) (close r (i ∷ l) m)) (on n (cells live j old (i ∷ l))) (drop n (cells live j old (i ∷ l))) (force live j old (i ∷ l))
      go false e b' e' = stops n r (i ∷ l) m old now (omega (arith, ltb-false 0 n (or_left (ltb 0 n) _ e))) inv
      go true e true e' = through i (thing u ∷ []) n 1 r l m old now refl (leb-true 1 n e') inv (ih (n - 1) r old now inv) refl refl
      go true e false e' = absurd (omega (arith, leb-false 1 n e', positive n (not (bare keys r)) e))
  walk-item k (mark c u) false x g n r l m old now inv ih = go (walks_on n r i) refl (is_absent (a c)) refl (leb 0 n) refl
    where
      i : Item
      i = item k (mark c u) false x g

      go : (b : Bool) → walks_on n r i ≡ b → (b' : Bool) → is_absent (a c) ≡ b' → (b'' : Bool) → leb 0 n ≡ b''
          → Reads j now (cond b (cond (not b') (over (kill i) (format_walk a n (remember a (mark c u) r) l m)) (cond b'' (over i (format_walk a (n - 0) r l m)) (and_then none (split n i l m) (closing r)))) (close r (i ∷ l) m))
          (on n (cells live j (cond (eqb j c) u old) l)) (drop n (cells live j (cond (eqb j c) u old) l)) (force live j (cond (eqb j c) u old) l)
      go false e b' e' b'' e'' = stops n r (i ∷ l) m old now (omega (arith, ltb-false 0 n (or_left (ltb 0 n) _ e))) inv
      go true e false e' b'' e'' = reads_over j now (kill i) (format_walk a n (remember a (mark c u) r) l m) _ _ (ih n (remember a (mark c u) r) (cond (eqb j c) u old) now (inv-marked r c u old now e' inv))
      go true e true e' true e'' = rw (sub-zero n) (reads_over j now i (format_walk a n r l m) _ _ (ih n r (cond (eqb j c) u old) (cond (eqb j c) u now) (inv-other r c u old now e' inv)))
      go true e true e' false e'' = absurd (omega (arith, leb-false 0 n e''))

  walk-reads : (l : List Item) (m n : ℕ) (r : Set) (old now : ℕ) → Inv (a j) (r j) old now
      → Reads j now (format_walk a n r l m) (on n (cells live j old l)) (drop n (cells live j old l)) (force live j old l)
  walk-reads [] m n r old now inv = reads_as (ap (map (lay_cell (a j))) (sym (take-nil n))) (sym (drop-nil n)) (close-reads j r [] m old now jk inv.owed)
  walk-reads (i ∷ l) m n r old now inv = walk-item i.num i.what i.flags.dead i.flags.added i.flags.gone n r l m old now inv (walk-reads l m)

  -- Format from a place
  pub format-reads : (n : ℕ) (e : Env) (l : List Item) (m : ℕ)
      → Reads j (e j) (format a n e l m) (on n (cells live j (e j) l)) (drop n (cells live j (e j) l)) (force live j (e j) l)
  format-reads n e l m = settled-reads j jk a (walking a n) e l m (on n) (drop n) (λ v now r e₂ l₂ m₂ k inv. walk-reads l₂ m₂ n r v now inv)

  -- Format by index
  pub format-cells : (i n : ℕ) (l : List Item) (m : ℕ)
      → cells live j 0 (whole (by_index i (format a n) l m)) ≡ take i (cells live j 0 l) ++ map (lay_cell (a j)) (take n (drop i (cells live j 0 l))) ++ drop n (drop i (cells live j 0 l))
  format-cells i n l m = index-cells j i (format a n) l m (λ v cs. on n cs) (drop n) (format-reads n)

  pub format-end : (i n : ℕ) (l : List Item) (m : ℕ) → force live j 0 (whole (by_index i (format a n) l m)) ≡ force live j 0 l
  format-end i n l m = index-end j i (format a n) l m (λ v cs. on n cs) (drop n) (format-reads n)

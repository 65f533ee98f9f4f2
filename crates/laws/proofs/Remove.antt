-- Removing, seen by any key: the units of the range go, and no other unit's attributes change.
use Prim.Native.Nat.{ℕ, zero, suc, ◌-◌, ◌≤◌}
use mathlib.Core.Path.{◌≡◌, refl, sym, ap, ◌∙◌, subst}
use mathlib.Core.Bool.{Bool, true, false, cond, not, ◌&&◌, ◌||◌, false≢true}
use mathlib.Core.List.{List, [], ◌∷◌, ◌++◌, map, append-nil}
use mathlib.Core.Logic.{◌⊎◌, inl, inr}
use native.Mathlib.Omega.{arith}
use lib.Dec.{eqb, leb}
use lib.ListN.{length, take, drop, take-append-drop}
use lib.Seq.{drop-nil}
use borrow.Author.Tests.{eqb-true, eqb-false, leb-true, leb-false}
use Rattle.sets.specs.Sets.{Env, keys, is_none}
use Rattle.rules.specs.Sheet.{What, text, embed, mark, Item, dead, kill, width, is_mark}
use Rattle.rules.specs.Reading.{live, Glyph, units_of, glyphs, Cell, paint, cells, force, pass_key, shown}
use Rattle.rules.specs.Places.{At, whole, stay, over, after, split}
use Rattle.rules.specs.Edits.{kill_units, to_end, idle, tidy_item, tidy, delete_here, remove_here, remove}
use Rattle.laws.proofs.Lists.{length-paint, length-units, map-append}
use Rattle.laws.proofs.Places.{item, Reads, split-reads, index-cells, index-end, cells-append, force-append, drop_past}

-- a list that shows nothing, whatever is in force: deleted items and marks
abbrev pub silent : Item → Bool
silent i = dead i || is_mark i.what

pub data Blank : List Item → Type 0 where
  nil : Blank []
  cons : {i : Item} {l : List Item} → silent i ≡ true → Blank l → Blank (i ∷ l)

pub end_whole : (l : List Item) (m : ℕ) → (to_end l m).left ++ (to_end l m).right ≡ l
end_whole [] m = refl
end_whole (i ∷ l) m = go (is_mark i.what) (end_whole l m)
  where
    go : (b : Bool) → (to_end l m).left ++ (to_end l m).right ≡ l → (cond b (over i (to_end l m)) (stay (i ∷ l) m)).left ++ (cond b (over i (to_end l m)) (stay (i ∷ l) m)).right ≡ i ∷ l
    go true e = ap (λ (x : List Item). i ∷ x) e
    go false e = refl

module _ (j : ℕ) where
  silent-shows : (k : ℕ) (w : What) (d x g : Bool) (v : ℕ) → silent (item k w d x g) ≡ true → shown live (item k w d x g) v ≡ []
  silent-shows k w true x g v h = refl
  silent-shows k (text s n) false x g v h = absurd (false≢true h)
  silent-shows k (embed e) false x g v h = absurd (false≢true h)
  silent-shows k (mark c u) false x g v h = refl

  blank-cells : {l : List Item} → Blank l → (v : ℕ) → cells live j v l ≡ []
  blank-cells nil v = refl
  blank-cells (cons {i = i} {l = l} h b) v = rw (silent-shows i.num i.what i.flags.dead i.flags.added i.flags.gone v h) (blank-cells b (pass_key live j i v))

-- what is removed: its left part is blank, and the rest reads on
pub record Kills (j v : ℕ) (p : At) (y : List Cell) (z : ℕ) : Type 0 where
  pub blank : Blank p.left
  pub right : cells live j (force live j v p.left) p.right ≡ y
  pub end : force live j (force live j v p.left) p.right ≡ z

module _ (j : ℕ) where
  kills-over : (v : ℕ) (i : Item) (p : At) (y : List Cell) {z : ℕ} → silent i ≡ true → Kills j (pass_key live j i v) p y z → Kills j v (over i p) y z
  kills-over v i p y h k = record { blank = cons h k.blank; right = k.right; end = k.end }

  killed : (k : ℕ) (w : What) (x g : Bool) (gs : List Glyph) (n : ℕ) (l : List Item) (m v : ℕ) → length gs ≡ width w → width w ≤ suc n
      → Kills j v (kill_units (suc n - width w) l m) (drop (suc n - width w) (cells live j v l)) (force live j v l)
      → Kills j v (over (kill (item k w false x g)) (kill_units (suc n - width w) l m)) (drop (suc n) (paint v gs ++ cells live j v l)) (force live j v l)
  killed k w x g gs n l m v len h ih = record {
    blank = cons refl ih.blank;
    right = ih.right ∙ sym (drop_past (paint v gs) (cells live j v l) (suc n) (omega (arith, lp)) ∙ ap (λ (z : ℕ). drop (suc n - z) (cells live j v l)) lp);
    end = ih.end;
  }
    where
      lp : length (paint v gs) ≡ width w
      lp = length-paint v gs ∙ len

  kill-item : (k : ℕ) (w : What) (d x g : Bool) (n : ℕ) (l : List Item) (m v : ℕ)
      → ((n v : ℕ) → Kills j v (kill_units n l m) (drop n (cells live j v l)) (force live j v l))
      → Kills j v (kill_units (suc n) (item k w d x g ∷ l) m) (drop (suc n) (cells live j v (item k w d x g ∷ l))) (force live j v (item k w d x g ∷ l))
  kill-item k w true x g n l m v ih = kills-over v (item k w true x g) (kill_units (suc n) l m) (drop (suc n) (cells live j v l)) refl (ih (suc n) v)
  kill-item k (mark c u) false x g n l m v ih = kills-over v (item k (mark c u) false x g) (kill_units (suc n) l m) _ refl (ih (suc n) (cond (eqb j c) u v))
  kill-item k (embed e) false x g n l m v ih = go (leb 1 (suc n)) refl
    where
      i : Item
      i = item k (embed e) false x g

      cut_killed : At
      cut_killed = record { left = map kill (split (suc n) i l m).left; right = (split (suc n) i l m).right; next = suc m }

      go : (b : Bool) → leb 1 (suc n) ≡ b → Kills j v (cond b (over (kill i) (kill_units (suc n - 1) l m)) cut_killed) (drop (suc n) (cells live j v (i ∷ l))) (force live j v (i ∷ l))
      go true e = killed k i.what x g (glyphs i.what) n l m v refl (omega arith) (ih (suc n - 1) v)
      go false e = absurd (omega (arith, leb-false 1 (suc n) e))
  kill-item k (text s w) false x g n l m v ih = go (leb w (suc n)) refl
    where
      i : Item
      i = item k (text s w) false x g

      cut_killed : At
      cut_killed = record { left = map kill (split (suc n) i l m).left; right = (split (suc n) i l m).right; next = suc m }

      go : (b : Bool) → leb w (suc n) ≡ b → Kills j v (cond b (over (kill i) (kill_units (suc n - w) l m)) cut_killed) (drop (suc n) (cells live j v (i ∷ l))) (force live j v (i ∷ l))
      go true e = killed k (text s w) x g (units_of s w) n l m v (length-units s w) (leb-true w (suc n) e) (ih (suc n - w) v)
      go false e = record { blank = cons refl nil; right = (split-reads j k s w x g (suc n) l m v (omega (arith, leb-false w (suc n) e))).right; end = refl }

  kill-units : (n : ℕ) (l : List Item) (m v : ℕ) → Kills j v (kill_units n l m) (drop n (cells live j v l)) (force live j v l)
  kill-units n [] m v = record { blank = nil; right = sym (drop-nil n); end = refl }
  kill-units zero (i ∷ l) m v = record { blank = nil; right = refl; end = refl }
  kill-units (suc n) (i ∷ l) m v = kill-item i.num i.what i.flags.dead i.flags.added i.flags.gone n l m v (λ n v. kill-units n l m v)

  -- Tidy
  or-true : (x : Bool) → (x || true) ≡ true
  or-true true = refl
  or-true false = refl

  end-blank : (l : List Item) (m : ℕ) → Blank (to_end l m).left
  end-blank [] m = nil
  end-blank (i ∷ l) m = go (is_mark i.what) refl (end-blank l m)
    where
      go : (b : Bool) → is_mark i.what ≡ b → Blank (to_end l m).left → Blank (cond b (over i (to_end l m)) (stay (i ∷ l) m)).left
      go true e h = cons {i = i} (rw e (or-true (dead i))) h
      go false e h = nil

  blank-append : {a b : List Item} → Blank a → Blank b → Blank (a ++ b)
  blank-append nil h = h
  blank-append (cons e k) h = cons e (blank-append k h)

  tidy-silent : (s e : Env) (i : Item) → silent i ≡ true → silent (tidy_item s e i) ≡ true
  tidy-silent s e i h = go (not (dead i) && idle s e i.what)
    where
      go : (b : Bool) → silent (cond b (kill i) i) ≡ true
      go true = refl
      go false = h

  tidy-blank : (s e : Env) {l : List Item} → Blank l → Blank (map (tidy_item s e) l)
  tidy-blank s e nil = nil
  tidy-blank s e (cons {i = i} h b) = cons (tidy-silent s e i h) (tidy-blank s e b)

  -- what is in force at the end stays: now it is the end's value already, or the place's, and then the old value is not yet the end's unless the two are the same
  abbrev Near : ℕ → ℕ → ℕ → ℕ → Type 0
  Near s e c o = (c ≡ e) ⊎ ((c ≡ s) × (o ≡ e → s ≡ e))

  near-mark : (s e c o v : ℕ) → Near s e c o → (b : Bool) → eqb v e ≡ b → (b' : Bool) → eqb v s ≡ b' → Near s e (cond (not b || b') c v) v
  near-mark s e c o v n false q b' q' = near n
    where
      near : Near s e c o → Near s e c v
      near (inl h) = inl h
      near (inr h) = inr (h.0, λ z. absurd (eqb-false v e q z))
  near-mark s e c o v n true q true q' = near n
    where
      near : Near s e c o → Near s e c v
      near (inl h) = inl h
      near (inr h) = inl (h.0 ∙ sym (eqb-true v s q') ∙ eqb-true v e q)
  near-mark s e c o v n true q false q' = inl (eqb-true v e q)

  near-item : (s e : Env) (k : ℕ) (w : What) (d x g : Bool) (c o : ℕ) → Near (s j) (e j) c o
      → Near (s j) (e j) (pass_key live j (tidy_item s e (item k w d x g)) c) (pass_key live j (item k w d x g) o)
  near-item s e k w true x g c o n = n
  near-item s e k (text u m) false x g c o n = n
  near-item s e k (embed u) false x g c o n = n
  near-item s e k (mark u v) false x g c o n = go (eqb j u) refl
    where
      i : Item
      i = item k (mark u v) false x g

      pass : (b b' : Bool) → pass_key live j (cond b (kill i) i) c ≡ cond b c (cond (eqb j u) v c)
      pass true b' = refl
      pass false b' = refl

      other : (b : Bool) → cond b c c ≡ c
      other true = refl
      other false = refl

      go : (b : Bool) → eqb j u ≡ b → Near (s j) (e j) (pass_key live j (cond (not (eqb v (e u)) || eqb v (s u)) (kill i) i) c) (cond b v o)
      go true q = subst (λ (z : ℕ). Near (s j) (e j) z v)
          (sym (pass (not (eqb v (e u)) || eqb v (s u)) true ∙ ap (λ (b : Bool). cond (not (eqb v (e u)) || eqb v (s u)) c (cond b v c)) q ∙ ap (λ (z : ℕ). cond (not (eqb v (e z)) || eqb v (s z)) c v) (sym (eqb-true j u q))))
          (near-mark (s j) (e j) c o v n (eqb v (e j)) refl (eqb v (s j)) refl)
      go false q = subst (λ (z : ℕ). Near (s j) (e j) z o)
          (sym (pass (not (eqb v (e u)) || eqb v (s u)) true ∙ ap (λ (b : Bool). cond (not (eqb v (e u)) || eqb v (s u)) c (cond b v c)) q ∙ other (not (eqb v (e u)) || eqb v (s u))))
          n

  near-end : (s e c : ℕ) → Near s e c e → c ≡ e
  near-end s e c (inl h) = h
  near-end s e c (inr h) = h.0 ∙ h.1 refl

  pub tidy-force : (s e : Env) (l : List Item) (c o : ℕ) → Near (s j) (e j) c o → force live j o l ≡ e j → force live j c (map (tidy_item s e) l) ≡ e j
  tidy-force s e [] c o n h = near-end (s j) (e j) c (subst (λ (x : ℕ). Near (s j) (e j) c x) h n)
  tidy-force s e (i ∷ l) c o n h = tidy-force s e l (pass_key live j (tidy_item s e i) c) (pass_key live j i o) (near-item s e i.num i.what i.flags.dead i.flags.added i.flags.gone c o n) h

  tidy-kills : (s : Env) (p : At) (y : List Cell) {z : ℕ} → Kills j (s j) p y z → Kills j (s j) (tidy s p) y z
  tidy-kills s p y k = record {
    blank = tidy-blank s e k.blank;
    right =
        cells-append live j (force live j (s j) (map t p.left)) (map t q.left) q.right
        ∙ ap (λ (x : List Cell). x ++ cells live j (force live j (force live j (s j) (map t p.left)) (map t q.left)) q.right) (blank-cells j (tidy-blank s e (end-blank p.right p.next)) (force live j (s j) (map t p.left)))
        ∙ ap (λ (x : ℕ). cells live j x q.right) same
        ∙ sym old ∙ k.right;
    end =
        force-append live j (force live j (s j) (map t p.left)) (map t q.left) q.right
        ∙ ap (λ (x : ℕ). force live j x q.right) same
        ∙ sym old-end ∙ k.end;
  }
    where
      q : At
      q = to_end p.right p.next

      e : Env
      e = after s (p.left ++ q.left)

      t : Item → Item
      t = tidy_item s e

      same : force live j (force live j (s j) (map t p.left)) (map t q.left) ≡ e j
      same = sym (force-append live j (s j) (map t p.left) (map t q.left)) ∙ ap (force live j (s j)) (sym (map-append t p.left q.left)) ∙ tidy-force s e (p.left ++ q.left) (s j) (s j) (inr (refl, λ z. z)) refl

      old : cells live j (force live j (s j) p.left) p.right ≡ cells live j (e j) q.right
      old = ap (cells live j (force live j (s j) p.left)) (sym (end_whole p.right p.next))
          ∙ cells-append live j (force live j (s j) p.left) q.left q.right
          ∙ ap (λ (x : List Cell). x ++ cells live j (force live j (force live j (s j) p.left) q.left) q.right) (blank-cells j (end-blank p.right p.next) (force live j (s j) p.left))
          ∙ ap (λ (x : ℕ). cells live j x q.right) (sym (force-append live j (s j) p.left q.left))

      old-end : force live j (force live j (s j) p.left) p.right ≡ force live j (e j) q.right
      old-end = ap (force live j (force live j (s j) p.left)) (sym (end_whole p.right p.next))
          ∙ force-append live j (force live j (s j) p.left) q.left q.right
          ∙ ap (λ (x : ℕ). force live j x q.right) (sym (force-append live j (s j) p.left q.left))

  kills-reads : (v : ℕ) (p : At) (y : List Cell) {z : ℕ} → Kills j v p y z → Reads j v p [] y z
  kills-reads v p y k = record { left = blank-cells j k.blank v; right = k.right; end = k.end }

  pub delete-reads : (n : ℕ) (e : Env) (l : List Item) (m : ℕ) → Reads j (e j) (delete_here n e l m) [] (drop n (cells live j (e j) l)) (force live j (e j) l)
  delete-reads zero e l m = record { left = refl; right = refl; end = refl }
  delete-reads (suc n) e l m = kills-reads (e j) _ _ (tidy-kills e (kill_units (suc n) l m) _ (kill-units (suc n) l m (e j)))

  pub remove-reads : (n : ℕ) (e : Env) (l : List Item) (m : ℕ) → Reads j (e j) (remove_here n e l m) [] (drop n (cells live j (e j) l)) (force live j (e j) l)
  remove-reads n e l m = go (is_none keys e)
    where
      go : (b : Bool) → Reads j (e j) (cond b (kill_units n l m) (tidy e (kill_units n l m))) [] (drop n (cells live j (e j) l)) (force live j (e j) l)
      go true = kills-reads (e j) _ _ (kill-units n l m (e j))
      go false = kills-reads (e j) _ _ (tidy-kills e (kill_units n l m) _ (kill-units n l m (e j)))

  -- Remove by index
  pub remove-cells : (i n : ℕ) (l : List Item) (m : ℕ) → cells live j 0 (whole (remove i n l m)) ≡ take i (cells live j 0 l) ++ drop n (drop i (cells live j 0 l))
  remove-cells i zero l m = sym (take-append-drop i (cells live j 0 l))
  remove-cells i (suc n) l m = index-cells j i (remove_here (suc n)) l m (λ v cs. []) (drop (suc n)) (remove-reads (suc n)) ∙ ap (λ (x : List Cell). x ++ drop (suc n) (drop i (cells live j 0 l))) (append-nil (take i (cells live j 0 l)))

  pub remove-end : (i n : ℕ) (l : List Item) (m : ℕ) → force live j 0 (whole (remove i n l m)) ≡ force live j 0 l
  remove-end i zero l m = refl
  remove-end i (suc n) l m = index-end j i (remove_here (suc n)) l m (λ v cs. []) (drop (suc n)) (remove-reads (suc n))

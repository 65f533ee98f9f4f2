-- What Place, Settle, Open and Close show of one key: the cells left and right of the place reached, and the value at the list's end.
-- `reads_then` composes moves, `index-cells` starts one at an index.
use Prim.Native.Nat.{ℕ, zero, suc, ◌+◌, ◌-◌, ◌≤◌, ◌<◌}
use mathlib.Core.Path.{◌≡◌, refl, sym, ap, ◌∙◌, subst}
use mathlib.Core.Bool.{Bool, true, false, cond, false≢true}
use mathlib.Core.List.{List, [], ◌∷◌, ◌++◌, append_assoc, append-nil}
use native.Mathlib.Nat.{zero-add, add-zero, suc-add, add-suc}
use native.Mathlib.Omega.{arith}
use lib.Dec.{eqb, leb}
use lib.ListN.{length, take, drop}
use lib.Seq.{take_at, drop_at, take-nil, drop-nil, take-append-add, drop-append-add}
use borrow.Author.Tests.{eq-eqb, eqb-true, leb-true, leb-false}
use Rattle.sets.specs.Sets.{Slot, absent, is, Set, Env, none, keys, at, lay, slot_is}
use Rattle.rules.specs.Sheet.{What, text, embed, mark, Item}
use Rattle.rules.specs.Reading.{Seen, live, Glyph, unit, units_of, glyphs, Cell, paint, cells, force, pass_key, shown}
use Rattle.rules.specs.Places.{At, whole, stay, over, Move, after, and_then, split, uses, place, settle, mark_for, marks, put_marks, close}
use Rattle.rules.specs.Edits.{by_index}
use Rattle.laws.proofs.Lists.{paint-append, length-paint, length-units, length-glyphs, In, here, there}

-- an item by its parts
abbrev pub item : ℕ → What → Bool → Bool → Bool → Item
item k w d a g = record { num = k; what = w; flags = record { dead = d; added = a; gone = g } }

pub cells-append : (seen : Seen) (j v : ℕ) (a b : List Item) → cells seen j v (a ++ b) ≡ cells seen j v a ++ cells seen j (force seen j v a) b
cells-append seen j v [] b = refl
cells-append seen j v (i ∷ a) b = rw (cells-append seen j (pass_key seen j i v) a b) (sym (append_assoc (shown seen i v) (cells seen j (pass_key seen j i v) a) (cells seen j (force seen j (pass_key seen j i v) a) b)))

pub force-append : (seen : Seen) (j v : ℕ) (a b : List Item) → force seen j v (a ++ b) ≡ force seen j (force seen j v a) b
force-append seen j v [] b = refl
force-append seen j v (i ∷ a) b = force-append seen j (pass_key seen j i v) a b

pub take_past : (a b : List Cell) (n : ℕ) → length a ≤ n → take n (a ++ b) ≡ a ++ take (n - length a) b
take_past a b n h = let e : n ≡ length a + (n - length a) = omega arith in ap (λ (x : ℕ). take x (a ++ b)) e ∙ take-append-add a b (n - length a)

pub drop_past : (a b : List Cell) (n : ℕ) → length a ≤ n → drop n (a ++ b) ≡ drop (n - length a) b
drop_past a b n h = let e : n ≡ length a + (n - length a) = omega arith in ap (λ (x : ℕ). drop x (a ++ b)) e ∙ drop-append-add a b (n - length a)

pub units_add : (s n k : ℕ) → units_of s (n + k) ≡ units_of s n ++ units_of (s + n) k
units_add s zero k = rw (zero-add k, add-zero s) refl
units_add s (suc n) k = rw (suc-add n k, add-suc s n) (ap (λ (x : List Glyph). unit s ∷ x) (units_add (suc s) n k ∙ rw (suc-add s n) refl))

pub cut_cells : (v s n w : ℕ) → n ≤ w → paint v (units_of s w) ≡ paint v (units_of s n) ++ paint v (units_of (s + n) (w - n))
cut_cells v s n w h = let e : w ≡ n + (w - n) = omega arith in ap (λ (x : ℕ). paint v (units_of s x)) e ∙ ap (paint v) (units_add s n (w - n)) ∙ paint-append v (units_of s n) (units_of (s + n) (w - n))

-- A place shows x to its left and y to its right, and z is in force at the list's end, where v is in force at the left end.
pub record Reads (j v : ℕ) (p : At) (x y : List Cell) (z : ℕ) : Type 0 where
  pub left : cells live j v p.left ≡ x
  pub right : cells live j (force live j v p.left) p.right ≡ y
  pub end : force live j (force live j v p.left) p.right ≡ z

pub reads_whole : (j v : ℕ) (p : At) (x y : List Cell) {z : ℕ} → Reads j v p x y z → cells live j v (whole p) ≡ x ++ y
reads_whole j v p x y r = cells-append live j v p.left p.right ∙ ap (λ (z : List Cell). z ++ cells live j (force live j v p.left) p.right) r.left ∙ ap (λ (z : List Cell). x ++ z) r.right

pub reads_as : {j v : ℕ} {p : At} {x x' y y' : List Cell} {z : ℕ} → x ≡ x' → y ≡ y' → Reads j v p x y z → Reads j v p x' y' z
reads_as e f r = record { left = r.left ∙ e; right = r.right ∙ f; end = r.end }

pub reads_end : {j v : ℕ} {p : At} {x y : List Cell} {z z' : ℕ} → z ≡ z' → Reads j v p x y z → Reads j v p x y z'
reads_end e r = record { left = r.left; right = r.right; end = r.end ∙ e }

-- so what is in force at the end of the whole list is z
pub whole-end : (j v : ℕ) (p : At) (x y : List Cell) {z : ℕ} → Reads j v p x y z → force live j v (whole p) ≡ z
whole-end j v p x y r = force-append live j v p.left p.right ∙ r.end

module _ (j : ℕ) where
  pub reads_over : (v : ℕ) (i : Item) (p : At) (x y : List Cell) {z : ℕ} → Reads j (pass_key live j i v) p x y z → Reads j v (over i p) (shown live i v ++ x) y z
  reads_over v i p x y r = record { left = ap (λ (z : List Cell). shown live i v ++ z) r.left; right = r.right; end = r.end }

  pub reads_then : (v : ℕ) (e : Env) (p : At) (f : Move) (x z x' y : List Cell) {k k' : ℕ} → Reads j v p x z k
      → Reads j (force live j v p.left) (f (after e p.left) p.right p.next) x' y k' → Reads j v (and_then e p f) (x ++ x') y k'
  reads_then v e p f x z x' y r q = record {
    left = cells-append live j v p.left (f (after e p.left) p.right p.next).left ∙ ap (λ (u : List Cell). u ++ cells live j (force live j v p.left) (f (after e p.left) p.right p.next).left) r.left ∙ ap (λ (u : List Cell). x ++ u) q.left;
    right = ap (λ (u : ℕ). cells live j u (f (after e p.left) p.right p.next).right) (force-append live j v p.left (f (after e p.left) p.right p.next).left) ∙ q.right;
    end = ap (λ (u : ℕ). force live j u (f (after e p.left) p.right p.next).right) (force-append live j v p.left (f (after e p.left) p.right p.next).left) ∙ q.end;
  }

  -- Place
  pub split-reads : (k s w : ℕ) (a g : Bool) (n : ℕ) (l : List Item) (m v : ℕ) → n ≤ w
      → Reads j v (split n (item k (text s w) false a g) l m) (take n (cells live j v (item k (text s w) false a g ∷ l))) (drop n (cells live j v (item k (text s w) false a g ∷ l))) (force live j v (item k (text s w) false a g ∷ l))
  split-reads k s w a g n l m v h = record {
    left = append-nil (paint v (units_of s n)) ∙ sym (ap (take n) both ∙ take_at (paint v (units_of s n)) rest n len);
    right = sym (ap (drop n) both ∙ drop_at (paint v (units_of s n)) rest n len);
    end = refl;
  }
    where
      rest : List Cell
      rest = paint v (units_of (s + n) (w - n)) ++ cells live j v l

      len : length (paint v (units_of s n)) ≡ n
      len = length-paint v (units_of s n) ∙ length-units s n

      both : paint v (units_of s w) ++ cells live j v l ≡ paint v (units_of s n) ++ rest
      both = ap (λ (x : List Cell). x ++ cells live j v l) (cut_cells v s n w h) ∙ append_assoc (paint v (units_of s n)) (paint v (units_of (s + n) (w - n))) (cells live j v l)

  pub length-shown : (k : ℕ) (w : What) (d a g : Bool) (v : ℕ) → length (shown live (item k w d a g) v) ≡ uses (item k w d a g)
  length-shown k w true a g v = refl
  length-shown k w false a g v = length-paint v (glyphs w) ∙ length-glyphs w

  cut-reads : (k : ℕ) (w : What) (d a g : Bool) (n : ℕ) (l : List Item) (m v : ℕ) → suc n < uses (item k w d a g)
      → Reads j v (split (suc n) (item k w d a g) l m) (take (suc n) (cells live j v (item k w d a g ∷ l))) (drop (suc n) (cells live j v (item k w d a g ∷ l))) (force live j v (item k w d a g ∷ l))
  cut-reads k w true a g n l m v h = absurd (omega arith)
  cut-reads k (text s w) false a g n l m v h = split-reads k s w a g (suc n) l m v (omega arith)
  cut-reads k (embed e) false a g n l m v h = absurd (omega arith)
  cut-reads k (mark e x) false a g n l m v h = absurd (omega arith)

  pub place-reads : (n : ℕ) (l : List Item) (m v : ℕ) → Reads j v (place n l m) (take n (cells live j v l)) (drop n (cells live j v l)) (force live j v l)
  place-reads n [] m v = record { left = sym (take-nil n); right = sym (drop-nil n); end = refl }
  place-reads zero (i ∷ l) m v = record { left = refl; right = refl; end = refl }
  place-reads (suc n) (i ∷ l) m v = go (leb (uses i) (suc n)) refl (place-reads (suc n - uses i) l m (pass_key live j i v))
    where
      len : length (shown live i v) ≡ uses i
      len = length-shown i.num i.what i.flags.dead i.flags.added i.flags.gone v

      go : (b : Bool) → leb (uses i) (suc n) ≡ b
          → Reads j (pass_key live j i v) (place (suc n - uses i) l m) (take (suc n - uses i) (cells live j (pass_key live j i v) l)) (drop (suc n - uses i) (cells live j (pass_key live j i v) l)) (force live j (pass_key live j i v) l)
          → Reads j v (cond b (over i (place (suc n - uses i) l m)) (split (suc n) i l m)) (take (suc n) (cells live j v (i ∷ l))) (drop (suc n) (cells live j v (i ∷ l))) (force live j v (i ∷ l))
      go true e ih =
          let h : length (shown live i v) ≤ suc n = omega (arith, leb-true (uses i) (suc n) e, len) in
          reads_as
          (sym (take_past (shown live i v) (cells live j (pass_key live j i v) l) (suc n) h ∙ ap (λ (x : ℕ). shown live i v ++ take (suc n - x) (cells live j (pass_key live j i v) l)) len))
          (sym (drop_past (shown live i v) (cells live j (pass_key live j i v) l) (suc n) h ∙ ap (λ (x : ℕ). drop (suc n - x) (cells live j (pass_key live j i v) l)) len))
          (reads_over v i (place (suc n - uses i) l m) _ _ ih)
      go false e ih = cut-reads i.num i.what i.flags.dead i.flags.added i.flags.gone n l m v (leb-false (uses i) (suc n) e)

  -- Settle
  settle-item : (a : Set) (k : ℕ) (w : What) (d x g : Bool) (l : List Item) (m v : ℕ) → ((v : ℕ) → Reads j v (settle a l m) [] (cells live j v l) (force live j v l))
      → Reads j v (settle a (item k w d x g ∷ l) m) [] (cells live j v (item k w d x g ∷ l)) (force live j v (item k w d x g ∷ l))
  settle-item a k w true x g l m v ih = reads_over v (item k w true x g) (settle a l m) [] (cells live j v l) (ih v)
  settle-item a k (text s n) false x g l m v ih = record { left = refl; right = refl; end = refl }
  settle-item a k (embed e) false x g l m v ih = record { left = refl; right = refl; end = refl }
  settle-item a k (mark c u) false x g l m v ih = go (slot_is (a c) u)
    where
      go : (b : Bool) → Reads j v (cond b (over (item k (mark c u) false x g) (settle a l m)) (stay (item k (mark c u) false x g ∷ l) m)) [] (cells live j (cond (eqb j c) u v) l) (force live j (cond (eqb j c) u v) l)
      go true = reads_over v (item k (mark c u) false x g) (settle a l m) [] (cells live j (cond (eqb j c) u v) l) (ih (cond (eqb j c) u v))
      go false = record { left = refl; right = refl; end = refl }

  pub settle-reads : (a : Set) (l : List Item) (m v : ℕ) → Reads j v (settle a l m) [] (cells live j v l) (force live j v l)
  settle-reads a [] m v = record { left = refl; right = refl; end = refl }
  settle-reads a (i ∷ l) m v = settle-item a i.num i.what i.flags.dead i.flags.added i.flags.gone l m v (settle-reads a l m)

  -- Settle passes no mark of a key that A lacks
  settle-item-keeps : (a : Set) (k : ℕ) (w : What) (d x g : Bool) (l : List Item) (m v : ℕ) → a j ≡ absent → ((v : ℕ) → force live j v (settle a l m).left ≡ v)
      → force live j v (settle a (item k w d x g ∷ l) m).left ≡ v
  settle-item-keeps a k w true x g l m v h ih = ih v
  settle-item-keeps a k (text s n) false x g l m v h ih = refl
  settle-item-keeps a k (embed e) false x g l m v h ih = refl
  settle-item-keeps a k (mark c u) false x g l m v h ih = go (eqb j c) refl (slot_is (a c) u) refl
    where
      go : (b : Bool) → eqb j c ≡ b → (b' : Bool) → slot_is (a c) u ≡ b' → force live j v (cond b' (over (item k (mark c u) false x g) (settle a l m)) (stay (item k (mark c u) false x g ∷ l) m)).left ≡ v
      go b e false e' = refl
      go true e true e' = absurd (false≢true (ap (λ (s : Slot). slot_is s u) (sym h ∙ ap a (eqb-true j c e)) ∙ e'))
      go false e true e' = ap (λ (b : Bool). force live j (cond b u v) (settle a l m).left) e ∙ ih v

  pub settle-keeps : (a : Set) (l : List Item) (m v : ℕ) → a j ≡ absent → force live j v (settle a l m).left ≡ v
  settle-keeps a [] m v h = refl
  settle-keeps a (i ∷ l) m v h = settle-item-keeps a i.num i.what i.flags.dead i.flags.added i.flags.gone l m v h (λ v. settle-keeps a l m v h)

  -- Marks of a set: no cells, and its values are in force right of them
  marks-none : (ks : List ℕ) (a : Set) (m v : ℕ) → cells live j v (marks ks a m) ≡ []
  marks-none [] a m v = refl
  marks-none (k ∷ ks) a m v = go (a k) (marks-none ks a)
    where
      go : (s : Slot) → ((m v : ℕ) → cells live j v (marks ks a m) ≡ []) → cells live j v (mark_for k s (marks ks a) m) ≡ []
      go absent ih = ih m v
      go (is w) ih = ih (suc m) (cond (eqb j k) w v)

  stays : (ks : List ℕ) (a : Set) (m v : ℕ) → lay (a j) v ≡ v → force live j v (marks ks a m) ≡ v
  stays [] a m v h = refl
  stays (k ∷ ks) a m v h = go (a k) refl (stays ks a)
    where
      step : (w : ℕ) → a k ≡ is w → (b : Bool) → eqb j k ≡ b → cond b w v ≡ v
      step w e true q = sym (ap (λ (s : Slot). lay s v) (ap a (eqb-true j k q) ∙ e)) ∙ h
      step w e false q = refl

      go : (s : Slot) → a k ≡ s → ((m v : ℕ) → lay (a j) v ≡ v → force live j v (marks ks a m) ≡ v)
          → force live j v (mark_for k s (marks ks a) m) ≡ v
      go absent e ih = ih m v h
      go (is w) e ih = ap (λ (x : ℕ). force live j x (marks ks a (suc m))) (step w e (eqb j k) refl) ∙ ih (suc m) v h

  pub marks-set : (ks : List ℕ) (a : Set) (m v : ℕ) → In j ks → force live j v (marks ks a m) ≡ lay (a j) v
  marks-set [] a m v i = elim i [ ]
  marks-set (k ∷ ks) a m v (there h) = go (a k) refl (λ m v. marks-set ks a m v h)
    where
      agree : (w : ℕ) → a k ≡ is w → (b : Bool) → eqb j k ≡ b → lay (a j) (cond b w v) ≡ lay (a j) v
      agree w e true q = rw (ap a (eqb-true j k q) ∙ e) refl
      agree w e false q = refl

      go : (s : Slot) → a k ≡ s → ((m v : ℕ) → force live j v (marks ks a m) ≡ lay (a j) v)
          → force live j v (mark_for k s (marks ks a) m) ≡ lay (a j) v
      go absent e ih = ih m v
      go (is w) e ih = ih (suc m) (cond (eqb j k) w v) ∙ agree w e (eqb j k) refl
  marks-set (k ∷ ks) a m v (here q) = go (a k) refl
    where
      go : (s : Slot) → a k ≡ s
          → force live j v (mark_for k s (marks ks a) m) ≡ lay (a j) v
      go absent e = let f : a j ≡ absent = ap a q ∙ e in stays ks a m v (rw f refl) ∙ rw f refl
      go (is w) e = let f : a j ≡ is w = ap a q ∙ e in ap (λ (b : Bool). force live j (cond b w v) (marks ks a (suc m))) (eq-eqb j k q) ∙ stays ks a (suc m) w (rw f refl) ∙ rw f refl

  pub put_marks-reads : (a : Set) (l : List Item) (m v : ℕ) → In j keys → Reads j v (put_marks a l m) [] (cells live j (lay (a j) v) l) (force live j (lay (a j) v) l)
  put_marks-reads a l m v jk = record { left = marks-none keys a m v; right = ap (λ (x : ℕ). cells live j x l) (marks-set keys a m v jk); end = ap (λ (x : ℕ). force live j x l) (marks-set keys a m v jk) }

  -- Close pays what is owed: the rest of the list reads as before
  close-item : (r : Set) (k : ℕ) (w : What) (d x g : Bool) (l : List Item) (m old now : ℕ) → In j keys → lay (r j) now ≡ old
      → ((r : Set) (old now : ℕ) → lay (r j) now ≡ old → Reads j now (close r l m) [] (cells live j old l) (force live j old l))
      → Reads j now (close r (item k w d x g ∷ l) m) [] (cells live j old (item k w d x g ∷ l)) (force live j old (item k w d x g ∷ l))
  close-item r k w true x g l m old now jk o ih = reads_over now (item k w true x g) (close r l m) [] (cells live j old l) (ih r old now o)
  close-item r k (text s n) false x g l m old now jk o ih = subst (λ (z : ℕ). Reads j now (put_marks r (item k (text s n) false x g ∷ l) m) [] (cells live j z (item k (text s n) false x g ∷ l)) (force live j z (item k (text s n) false x g ∷ l))) o (put_marks-reads r (item k (text s n) false x g ∷ l) m now jk)
  close-item r k (embed e) false x g l m old now jk o ih = subst (λ (z : ℕ). Reads j now (put_marks r (item k (embed e) false x g ∷ l) m) [] (cells live j z (item k (embed e) false x g ∷ l)) (force live j z (item k (embed e) false x g ∷ l))) o (put_marks-reads r (item k (embed e) false x g ∷ l) m now jk)
  close-item r k (mark c u) false x g l m old now jk o ih = go (slot_is (r c) u)
    where
      i : Item
      i = item k (mark c u) false x g

      owed : (b : Bool) → lay (cond b absent (r j)) (cond b u now) ≡ cond b u old
      owed true = refl
      owed false = o

      go : (b : Bool) → Reads j now (cond b (over i (close (at c absent r) l m)) (put_marks r (i ∷ l) m)) [] (cells live j old (i ∷ l)) (force live j old (i ∷ l))
      go true = reads_over now i (close (at c absent r) l m) [] (cells live j (cond (eqb j c) u old) l) (ih (at c absent r) (cond (eqb j c) u old) (cond (eqb j c) u now) (owed (eqb j c)))
      go false = subst (λ (z : ℕ). Reads j now (put_marks r (i ∷ l) m) [] (cells live j z (i ∷ l)) (force live j z (i ∷ l))) o (put_marks-reads r (i ∷ l) m now jk)

  pub close-reads : (r : Set) (l : List Item) (m old now : ℕ) → In j keys → lay (r j) now ≡ old → Reads j now (close r l m) [] (cells live j old l) (force live j old l)
  close-reads r [] m old now jk o = reads_end o (put_marks-reads r [] m now jk)
  close-reads r (i ∷ l) m old now jk o = close-item r i.num i.what i.flags.dead i.flags.added i.flags.gone l m old now jk o (λ r old now o. close-reads r l m old now jk o)

  -- A move that shows x and y of what stands right of any place, and keeps the list's end, does so right of an index.
  abbrev pub ShowsRight : Move → (ℕ → List Cell → List Cell) → (List Cell → List Cell) → Type 0
  ShowsRight f x y = (e : Env) (l : List Item) (m : ℕ) → Reads j (e j) (f e l m) (x (e j) (cells live j (e j) l)) (y (cells live j (e j) l)) (force live j (e j) l)

  pub index_reads : (i : ℕ) (f : Move) (l : List Item) (m : ℕ) (x : ℕ → List Cell → List Cell) (y : List Cell → List Cell) → ShowsRight f x y
      → Reads j 0 (by_index i f l m) (take i (cells live j 0 l) ++ x (force live j 0 (place i l m).left) (drop i (cells live j 0 l))) (y (drop i (cells live j 0 l))) (force live j 0 l)
  index_reads i f l m x y h =
      reads_then 0 none p f (take i cs) (drop i cs) (x v (drop i cs)) (y (drop i cs))
      (place-reads i l m 0)
      (reads_end (place-reads i l m 0).end
      (subst (λ (z : List Cell). Reads j v (f (after none p.left) p.right p.next) (x v z) (y z) (force live j v p.right)) (place-reads i l m 0).right (h (after none p.left) p.right p.next)))
    where
      cs : List Cell
      cs = cells live j 0 l

      p : At
      p = place i l m

      v : ℕ
      v = force live j 0 p.left

  pub index-cells : (i : ℕ) (f : Move) (l : List Item) (m : ℕ) (x : ℕ → List Cell → List Cell) (y : List Cell → List Cell) → ShowsRight f x y
      → cells live j 0 (whole (by_index i f l m)) ≡ take i (cells live j 0 l) ++ x (force live j 0 (place i l m).left) (drop i (cells live j 0 l)) ++ y (drop i (cells live j 0 l))
  index-cells i f l m x y h = reads_whole j 0 (by_index i f l m) _ _ (index_reads i f l m x y h)

  pub index-end : (i : ℕ) (f : Move) (l : List Item) (m : ℕ) (x : ℕ → List Cell → List Cell) (y : List Cell → List Cell) → ShowsRight f x y → force live j 0 (whole (by_index i f l m)) ≡ force live j 0 l
  index-end i f l m x y h = whole-end j 0 (by_index i f l m) _ _ (index_reads i f l m x y h)

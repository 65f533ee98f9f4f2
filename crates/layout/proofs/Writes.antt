-- What writes do to the list. Three laws serve every write: a word that is not on the chain does not count (`keep`), a word that keeps its link changes its own
-- item (`edit-chain`), and a new word behind item l stands behind l's item (`link-after`). The laws of the crate's writes, `kill_law` and `put_law`, follow. Assumes nothing.
use Prim.Native.Nat.{ℕ, zero, suc, ◌/◌, ◌%◌, ◌<◌, ◌≤◌}
use native.Mathlib.Omega.{arith}
use mathlib.Core.Path.{◌≡◌, refl, sym, ap, ap₂, ◌∙◌}
use mathlib.Core.Bool.{Bool, true, false, cond}
use mathlib.Core.List.{List, [], ◌∷◌, ◌++◌, map}
use lib.ListN.{length, get_or, set, length-set}
use lib.Seq.{get_or-set_same, get_or-set_other}
use lib.Dec.{eqb, ltb}
use borrow.Author.Tests.{lt-ltb, eqb-true, eqb-false}
use Rattle.rules.specs.Sheet.{Item}
use Rattle.layout.specs.Chain.{END, item_from, item_at, next_at, chain, walks, head_or, last_or, edit_at}
use Rattle.layout.proofs.Links.{walks-zero, walks_parts, Off, Distinct, head-is}

-- ---- a word that is not on the chain
pub keep : (f : ℕ) (m : List ℕ) (s x w : ℕ) → Off x (chain f m s) → chain f (set m x w) s ≡ chain f m s
unfolding chain
keep zero m s x w o = refl
keep (suc f) m s x w o =
    let e : get_or (set m x w) s 0 ≡ get_or m s 0 = get_or-set_other m x s w 0 (λ (q : s ≡ x). o.0 (sym q)) in
    rw e (ap (λ (ys : List Item). item_at m s ∷ ys) (keep f m (next_at m s) x w o.1))

pub keep_walks : (b f : ℕ) (m : List ℕ) (s x w : ℕ) → Off x (chain f m s) → walks b f (set m x w) s ≡ walks b f m s
unfolding chain walks
keep_walks b zero m s x w o = refl
keep_walks b (suc f) m s x w o =
    let e : get_or (set m x w) s 0 ≡ get_or m s 0 = get_or-set_other m x s w 0 (λ (q : s ≡ x). o.0 (sym q)) in
    rw (e, keep_walks b f m (next_at m s) x w o.1)

-- a larger bound
pub walks_more : (b f : ℕ) (m : List ℕ) (s : ℕ) → walks b f m s ≡ true → walks (suc b) f m s ≡ true
unfolding walks
walks_more b zero m s p = p
walks_more b (suc f) m s p =
    let q = walks_parts b f m s p in
    rw (lt-ltb s (suc b) (omega (arith, q.0)), walks_more b f m (next_at m s) q.1)

-- ---- a word that keeps its link
module _ (m : List ℕ) (x w : ℕ) (room : x < length m) (same : w % 4096 ≡ next_at m x) (g : Item → Item) (is : item_from x (w / 4096) ≡ g (item_at m x)) where
  edit-word : (s : ℕ) (t : Bool) → eqb s x ≡ t → get_or (set m x w) s 0 ≡ cond t w (get_or m s 0)
  edit-word s true e = rw (eqb-true s x e) (get_or-set_same m x w 0 room)
  edit-word s false e = get_or-set_other m x s w 0 (eqb-false s x e)

  edit-next : (s : ℕ) → next_at (set m x w) s ≡ next_at m s
  edit-next s = go (eqb s x) refl
    where
      go : (t : Bool) → eqb s x ≡ t → next_at (set m x w) s ≡ next_at m s
      go true e = rw (edit-word s true e, eqb-true s x e) same
      go false e = rw (edit-word s false e)

  edit-item : (s : ℕ) → item_at (set m x w) s ≡ edit_at x g (item_at m s)
  unfolding edit_at
  edit-item s = go (eqb s x) refl
    where
      go : (t : Bool) → eqb s x ≡ t → item_at (set m x w) s ≡ cond (eqb s x) (g (item_at m s)) (item_at m s)
      go true e = rw (e, edit-word s true e, eqb-true s x e) is
      go false e = rw (e, edit-word s false e)

  pub edit-chain : (f s : ℕ) → chain f (set m x w) s ≡ map (edit_at x g) (chain f m s)
  unfolding chain
  edit-chain zero s = refl
  edit-chain (suc f) s = ap₂ ◌∷◌ (edit-item s) (ap (chain f (set m x w)) (edit-next s) ∙ edit-chain f (next_at m s))

  pub edit-walks : (b f s : ℕ) → walks b f (set m x w) s ≡ walks b f m s
  unfolding walks
  edit-walks b zero s = refl
  edit-walks b (suc f) s =
      ap (λ (t : Bool). cond (ltb s b) t false) (ap (walks b f (set m x w)) (edit-next s) ∙ edit-walks b f (next_at m s))

-- ---- numbers and lists
pub no-cons : {x : Item} {xs : List Item} → [] ≡ x ∷ xs → ⊥
no-cons e =
    let z : ◌≡◌ {A = ℕ} 0 1 = cc in
    omega arith

pub off_mid : (i : ℕ) (L : List Item) (x : Item) (R : List Item) → Off i (L ++ x ∷ R) → i ≡ x.num → ⊥
off_mid i [] x R o e = o.0 e
off_mid i (y ∷ L) x R o e = off_mid i L x R o.1 e

-- a number that a sound walk starts at is a link
pub start-le : (b f : ℕ) (m : List ℕ) (s : ℕ) → b ≤ END → walks b f m s ≡ true → s ≤ END
start-le b zero m s h p = omega (arith, walks-zero b m s p)
start-le b (suc f) m s h p = omega (arith, (walks_parts b f m s p).0)

-- ---- a new word n behind item l, whose word now links to n
module _ (m : List ℕ) (n l v w : ℕ) (room : n < length m) (few : n ≤ END) (near : l < n) (to : w % 4096 ≡ n) (on : v % 4096 ≡ next_at m l) where
  word-l : get_or (set (set m n v) l w) l 0 ≡ w
  word-l =
      let h : l < length (set m n v) = simp length-set (omega arith) in
      get_or-set_same (set m n v) l w 0 h

  word-n : get_or (set (set m n v) l w) n 0 ≡ v
  word-n = get_or-set_other (set m n v) l n w 0 (omega arith) ∙ get_or-set_same m n v 0 room

  word-o : (s : ℕ) → (s ≡ l → ⊥) → (s ≡ n → ⊥) → get_or (set (set m n v) l w) s 0 ≡ get_or m s 0
  word-o s d e = get_or-set_other (set m n v) l s w 0 d ∙ get_or-set_other m n s v 0 e

  keep₂ : (f s : ℕ) → Off l (chain f m s) → Off n (chain f m s) → chain f (set (set m n v) l w) s ≡ chain f m s
  keep₂ f s ol on' =
      let e = keep f m s n v on' in
      keep f (set m n v) s l w (rw e ol) ∙ e

  keep-walks₂ : (b f s : ℕ) → Off l (chain f m s) → Off n (chain f m s) → walks b f (set (set m n v) l w) s ≡ walks b f m s
  keep-walks₂ b f s ol on' =
      let e = keep f m s n v on' in
      keep_walks b f (set m n v) s l w (rw e ol) ∙ keep_walks b f m s n v on'

  pub link-after : (L : List Item) (x : Item) (R : List Item) (f s : ℕ) → chain f m s ≡ L ++ x ∷ R → walks n f m s ≡ true → Distinct (L ++ x ∷ R) → Off n (L ++ x ∷ R) → x.num ≡ l
      → (walks (suc n) (suc f) (set (set m n v) l w) s ≡ true) × (chain (suc f) (set (set m n v) l w) s ≡ L ++ item_from l (w / 4096) ∷ item_from n (v / 4096) ∷ R)
  unfolding chain walks
  link-after [] x R zero s e p d o el = absurd (no-cons e)
  link-after [] x R (suc f) s e p d o el =
      let q = walks_parts n f m s p in
      let es : chain f m (next_at m s) ≡ R = cc in
      let ex : item_at m s ≡ x = cc in
      let sl : s ≡ l = ap (λ (y : Item). y.num) ex ∙ el in
      let vn : v % 4096 ≡ next_at m s = rw sl on in
      let ol : Off l (chain f m (next_at m s)) = rw (es, ← el) d.0 in
      let on' : Off n (chain f m (next_at m s)) = rw es o.1 in
      let wl : get_or (set (set m n v) l w) s 0 ≡ w = rw sl word-l in
      rw (wl, to, word-n, vn, lt-ltb s (suc n) (omega (arith, q.0)), lt-ltb n (suc n) (omega arith)) (
        keep-walks₂ (suc n) f (next_at m s) ol on' ∙ walks_more n f m (next_at m s) q.1,
        ap₂ (λ (i : ℕ) (ys : List Item). item_from i (w / 4096) ∷ item_from n (v / 4096) ∷ ys) sl (keep₂ f (next_at m s) ol on' ∙ es),
      )
  link-after (y ∷ L) x R zero s e p d o el = absurd (no-cons e)
  link-after (y ∷ L) x R (suc f) s e p d o el =
      let q = walks_parts n f m s p in
      let es : chain f m (next_at m s) ≡ L ++ x ∷ R = cc in
      let ey : item_at m s ≡ y = cc in
      let sy : s ≡ y.num = ap (λ (z : Item). z.num) ey in
      let ws : get_or (set (set m n v) l w) s 0 ≡ get_or m s 0 = word-o s (λ (t : s ≡ l). off_mid y.num L x R d.0 (sym sy ∙ t ∙ sym el)) (λ (t : s ≡ n). o.0 (sym t ∙ sy)) in
      let ih = link-after L x R f (next_at m s) es q.1 d.1 o.1 el in
      rw (ws, lt-ltb s (suc n) (omega (arith, q.0))) (ih.0, ap₂ ◌∷◌ ey ih.1)

-- ---- a new word n before the first item
module _ (m : List ℕ) (n v : ℕ) (room : n < length m) where
  pub link-front : (f s : ℕ) → v % 4096 ≡ s → walks n f m s ≡ true → Off n (chain f m s)
      → (walks (suc n) (suc f) (set m n v) n ≡ true) × (chain (suc f) (set m n v) n ≡ item_from n (v / 4096) ∷ chain f m s)
  unfolding chain walks
  link-front f s to p o =
      rw (get_or-set_same m n v 0 room, to, lt-ltb n (suc n) (omega arith)) (
        keep_walks (suc n) f m s n v o ∙ walks_more n f m s p,
        ap (λ (ys : List Item). item_from n (v / 4096) ∷ ys) (keep f m s n v o),
      )

-- ---- a split of the list, and the numbers beside it
-- the last of a list that is not empty
pub record Last (y : Item) (ys : List Item) : Type 0 where
  pub front : List Item
  pub last : Item
  pub whole : y ∷ ys ≡ front ++ last ∷ []
  pub number : last_or y.num ys ≡ last.num

pub last_of : (y : Item) (ys : List Item) → Last y ys
unfolding last_or
last_of y [] = record { front = []; last = y; whole = refl; number = refl }
last_of y (z ∷ ys) =
    let i = last_of z ys in
    record { front = y ∷ i.front; last = i.last; whole = ap (λ (zs : List Item). y ∷ zs) i.whole; number = i.number }

-- of sound links: the item behind x is the first of the rest, and x's number is below the bound
pub after_is : (b f : ℕ) (m : List ℕ) (s : ℕ) (L : List Item) (x : Item) (R : List Item) → b ≤ END → walks b f m s ≡ true → chain f m s ≡ L ++ x ∷ R → (head_or R ≡ next_at m x.num) × (x.num < b) × (head_or R ≤ END)
unfolding chain
after_is b zero m s [] x R h p e = absurd (no-cons e)
after_is b zero m s (y ∷ L) x R h p e = absurd (no-cons e)
after_is b (suc f) m s [] x R h p e =
    let q = walks_parts b f m s p in
    let es : chain f m (next_at m s) ≡ R = cc in
    let ex : item_at m s ≡ x = cc in
    let sx : s ≡ x.num = ap (λ (y : Item). y.num) ex in
    let r : head_or R ≡ next_at m s = ap head_or (sym es) ∙ head-is b m h f (next_at m s) q.1 in
    (rw (← sx) r, omega (arith, q.0), omega (arith, start-le b f m (next_at m s) h q.1))
after_is b (suc f) m s (y ∷ L) x R h p e = after_is b f m (next_at m s) L x R h (walks_parts b f m s p).1 cc

-- a item of the list is what its number's word says
pub item-is : (f : ℕ) (m : List ℕ) (s : ℕ) (L : List Item) (x : Item) (R : List Item) → chain f m s ≡ L ++ x ∷ R → item_at m x.num ≡ x
unfolding chain
item-is zero m s [] x R e = absurd (no-cons e)
item-is zero m s (y ∷ L) x R e = absurd (no-cons e)
item-is (suc f) m s [] x R e =
    let ex : item_at m s ≡ x = cc in
    let sx : s ≡ x.num = ap (λ (y : Item). y.num) ex in
    ap (item_at m) (sym sx) ∙ ex
item-is (suc f) m s (y ∷ L) x R e = item-is f m (next_at m s) L x R cc

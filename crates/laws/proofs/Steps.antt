-- Place, Settle, Open, Close and the insertions, taken apart into the steps of `Grown`.
use Prim.Native.Nat.{ℕ, zero, suc, ◌+◌, ◌-◌, ◌≤◌, ◌<◌}
use mathlib.Core.Path.{◌≡◌, refl, sym, ap, ◌∙◌, subst}
use mathlib.Core.Bool.{Bool, true, false, cond, ◌||◌, true≢false}
use mathlib.Core.List.{List, [], ◌∷◌, ◌++◌, append_assoc}
use native.Mathlib.Nat.{add-suc, suc-add, add-zero}
use native.Mathlib.Omega.{arith}
use lib.Dec.{eqb, leb}
use lib.ListN.{length}
use borrow.Author.Tests.{leb-true, leb-false}
use Rattle.sets.specs.Sets.{Slot, absent, is, is_absent, Set, Env, empty, keys, differs, opened, former, completed, null_for}
use Rattle.rules.specs.Sheet.{What, text, embed, mark, Item, dead, new}
use Rattle.rules.specs.Reading.{live, Glyph, glyphs, seen_glyphs, force, pass_key}
use Rattle.rules.specs.Places.{At, whole, stay, over, Move, after, and_then, split, uses, place, agrees, settle, mark_for, marks, put_marks, forget, close}
use Rattle.rules.specs.Edits.{put_new, plain_text, plain_embed, opening, settled, closing, put_close, insert_with}
use Rattle.rules.specs.Rulings.{FineSet}
use Rattle.laws.proofs.Lists.{In, here, there, length-glyphs}
use Rattle.laws.proofs.Grown.{Fresh, embeds, texts, Grown, same, then, under, marked, adds, kills, halves}
use Rattle.laws.proofs.Cuts.{Clean, clean-past, clean-cut, seen_same}
use Rattle.laws.proofs.Places.{item, settle-reads}

-- the values of a list's marks, of a set, and of what is in force
abbrev pub FineWhat : (ℕ → Type 0) → What → Type 0
FineWhat P (text s n) = Unit {0}
FineWhat P (embed e) = Unit {0}
FineWhat P (mark k v) = P v

abbrev pub FineList : (ℕ → Type 0) → List Item → Type 0
FineList P [] = Unit {0}
FineList P (i ∷ l) = FineWhat P i.what × FineList P l

abbrev pub FineEnv : (ℕ → Type 0) → Env → Type 0
FineEnv P e = (k : ℕ) → P (e k)

-- what a move asks of the text that it sees: nothing, or that it may be cut at n
abbrev pub Anyway : List Glyph → Type 0
Anyway gs = Unit {0}

abbrev pub Cuttable : (ℕ → Type 0) → ℕ → List Glyph → Type 0
Cuttable C n gs = Clean C gs n

module _ (P C : ℕ → Type 0) (N : What → Type 0) where
  fine-left : (a b : List Item) → FineList P (a ++ b) → FineList P a
  fine-left [] b h = tt
  fine-left (i ∷ a) b h = (h.0, fine-left a b h.1)

  fine-right : (a b : List Item) → FineList P (a ++ b) → FineList P b
  fine-right [] b h = h
  fine-right (i ∷ a) b h = fine-right a b h.1

  -- a list grown from a fine one is fine
  pub grown-fine : {l l' : List Item} {m m' u u' : ℕ} → Grown P C N l m u l' m' u' → FineList P l → FineList P l'
  grown-fine same h = h
  grown-fine (then g g') h = grown-fine g' (grown-fine g h)
  grown-fine (under g) h = (h.0, grown-fine g h.1)
  grown-fine (marked k v i p) h = (p, h)
  grown-fine (adds (embeds x q)) h = (tt, h)
  grown-fine (adds (texts n q q')) h = (tt, h)
  grown-fine (kills i q) h = h
  grown-fine (halves k s w f n q q' c) h = (tt, (tt, h.1))

  fine-pass : (j k : ℕ) (w : What) (d x g : Bool) (v : ℕ) → P v → FineWhat P w → P (pass_key live j (item k w d x g) v)
  fine-pass j k w true x g v p h = p
  fine-pass j k (text s n) false x g v p h = p
  fine-pass j k (embed e) false x g v p h = p
  fine-pass j k (mark c y) false x g v p h = go (eqb j c)
    where
      go : (b : Bool) → P (cond b y v)
      go true = h
      go false = p

  fine-force : (j v : ℕ) (l : List Item) → P v → FineList P l → P (force live j v l)
  fine-force j v [] p h = p
  fine-force j v (i ∷ l) p h = fine-force j (pass_key live j i v) l (fine-pass j i.num i.what i.flags.dead i.flags.added i.flags.gone v p h.0) h.1

  fine-after : (e : Env) (l : List Item) → FineEnv P e → FineList P l → FineEnv P (after e l)
  fine-after e l p h k = fine-force k (e k) l (p k) h

  abbrev pub Grows : List Item → ℕ → ℕ → At → ℕ → Type 0
  Grows l m u p u' = Grown P C N l m u (whole p) p.next u'

  pub under_all : (a : List Item) {l l' : List Item} {m m' u u' : ℕ} → Grown P C N l m u l' m' u' → Grown P C N (a ++ l) m u (a ++ l') m' u'
  under_all [] g = g
  under_all (i ∷ a) g = under (under_all a g)

  -- a move that grows any fine list
  -- where H holds of what is visible right of the place
  abbrev pub Growing : Move → (List Glyph → Type 0) → ℕ → ℕ → Type 0
  Growing f H u u' = (e : Env) (l : List Item) (m : ℕ) → FineEnv P e → FineList P l → H (seen_glyphs l) → Grows l m u (f e l m) u'

  pub grows_then : {u u' u'' : ℕ} (e : Env) (l : List Item) (m : ℕ) (p : At) (f : Move) (H : List Glyph → Type 0) → FineEnv P e → FineList P l → Grows l m u p u' → Growing f H u' u'' → H (seen_glyphs p.right) → Grows l m u (and_then e p f) u''
  grows_then {u} {u'} {u''} e l m p f H fe fl g h hh =
      then g (subst (λ (x : List Item). Grown P C N (whole p) p.next u' x q.next u'') (sym (append_assoc p.left q.left q.right))
      (under_all p.left (h (after e p.left) p.right p.next (fine-after e p.left fe (fine-left p.left p.right fw)) (fine-right p.left p.right fw) hh)))
    where
      q : At
      q = f (after e p.left) p.right p.next

      fw : FineList P (whole p)
      fw = grown-fine g fl

  -- Place
  split-grows : (k : ℕ) (w : What) (d x g : Bool) (n : ℕ) (l : List Item) (m u : ℕ) → suc n < uses (item k w d x g) → Clean C (seen_glyphs (item k w d x g ∷ l)) (suc n) → Grows (item k w d x g ∷ l) m u (split (suc n) (item k w d x g) l m) u
  split-grows k w true x g n l m u h c = absurd (omega arith)
  split-grows k (text s y) false x g n l m u h c = halves k s y (record { dead = false; added = x; gone = g }) (suc n) (omega arith) h (clean-cut C s (suc n) y (seen_glyphs l) (omega arith) h c)
  split-grows k (embed e) false x g n l m u h c = absurd (omega arith)
  split-grows k (mark c y) false x g n l m u h c' = absurd (omega arith)

  -- what is left of an index after an item
  pub clean-item : (k : ℕ) (w : What) (d x g : Bool) (n : ℕ) (l : List Item) → uses (item k w d x g) ≤ n → Clean C (seen_glyphs (item k w d x g ∷ l)) n → Clean C (seen_glyphs l) (n - uses (item k w d x g))
  clean-item k w true x g n l h c = subst (λ (z : ℕ). Clean C (seen_glyphs l) z) (omega arith) c
  clean-item k w false x g n l h c = subst (λ (z : ℕ). Clean C (seen_glyphs l) (n - z)) (length-glyphs w) (clean-past C (glyphs w) (seen_glyphs l) n (omega (arith, length-glyphs w)) c)

  pub place-grows : (n : ℕ) (l : List Item) (m u : ℕ) → Clean C (seen_glyphs l) n → Grows l m u (place n l m) u
  place-grows n [] m u c = same
  place-grows zero (i ∷ l) m u c = same
  place-grows (suc n) (i ∷ l) m u c = go (leb (uses i) (suc n)) refl (place-grows (suc n - uses i) l m u)
    where
      go : (b : Bool) → leb (uses i) (suc n) ≡ b → (Clean C (seen_glyphs l) (suc n - uses i) → Grows l m u (place (suc n - uses i) l m) u) → Grows (i ∷ l) m u (cond b (over i (place (suc n - uses i) l m)) (split (suc n) i l m)) u
      go true e ih = under (ih (clean-item i.num i.what i.flags.dead i.flags.added i.flags.gone (suc n) l (leb-true (uses i) (suc n) e) c))
      go false e ih = split-grows i.num i.what i.flags.dead i.flags.added i.flags.gone n l m u (leb-false (uses i) (suc n) e) c

  -- Settle, Open, Close
  pub settle-grows : (a : Set) (l : List Item) (m u : ℕ) → Grows l m u (settle a l m) u
  settle-grows a [] m u = same
  settle-grows a (i ∷ l) m u = go (dead i || agrees a i.what) (settle-grows a l m u)
    where
      go : (b : Bool) → Grows l m u (settle a l m) u → Grows (i ∷ l) m u (cond b (over i (settle a l m)) (stay (i ∷ l) m)) u
      go true ih = under ih
      go false ih = same

  marks-grow : (ks : List ℕ) → ((k : ℕ) → In k ks → In k keys) → (a : Set) → FineSet P a → (l : List Item) (m u : ℕ) → Grown P C N l m u (marks ks a m ++ l) (m + length (marks ks a m)) u
  marks-grow [] sub a f l m u = rw (add-zero m) same
  marks-grow (k ∷ ks) sub a f l m u = go (a k) refl (λ m. marks-grow ks (λ k i. sub k (there i)) a f l m u)
    where
      go : (s : Slot) → a k ≡ s → ((m : ℕ) → Grown P C N l m u (marks ks a m ++ l) (m + length (marks ks a m)) u) → Grown P C N l m u (mark_for k s (marks ks a) m ++ l) (m + length (mark_for k s (marks ks a) m)) u
      go absent e ih = ih m
      go (is v) e ih = then (marked k v (sub k (here refl)) (f k v e)) (under (subst (λ (x : ℕ). Grown P C N l (suc m) u (marks ks a (suc m) ++ l) x u) (suc-add m (length (marks ks a (suc m))) ∙ sym (add-suc m (length (marks ks a (suc m))))) (ih (suc m))))

  put_marks-grows : (a : Set) → FineSet P a → (l : List Item) (m u : ℕ) → Grows l m u (put_marks a l m) u
  put_marks-grows a f l m u = marks-grow keys (λ k i. i) a f l m u

  fine-forget : (w : What) (r : Set) → FineSet P r → FineSet P (forget w r)
  fine-forget (text s n) r f k v e = f k v e
  fine-forget (embed x) r f k v e = f k v e
  fine-forget (mark c y) r f k v e = go (eqb k c) e
    where
      go : (b : Bool) → cond b absent (r k) ≡ is v → P v
      go true e = absurd (true≢false (ap is_absent e))
      go false e = f k v e

  pub close-grows : (r : Set) → FineSet P r → (l : List Item) (m u : ℕ) → Grows l m u (close r l m) u
  close-grows r f [] m u = put_marks-grows r f [] m u
  close-grows r f (i ∷ l) m u = go (dead i) (agrees r i.what) (close-grows r f l m u) (close-grows (forget i.what r) (fine-forget i.what r f) l m u)
    where
      go : (b b' : Bool) → Grows l m u (close r l m) u → Grows l m u (close (forget i.what r) l m) u
          → Grows (i ∷ l) m u (cond b (over i (close r l m)) (cond b' (over i (close (forget i.what r) l m)) (put_marks r (i ∷ l) m))) u
      go true b' h h' = under h
      go false true h h' = under h'
      go false false h h' = put_marks-grows r f (i ∷ l) m u

  put_new-grows : {u u' : ℕ} {w : What} → Fresh N w u u' → Growing (put_new w) Anyway u u'
  put_new-grows {u} {u'} {w} f e l m fe fl hh = subst (λ (x : ℕ). Grown P C N l m u (new m w ∷ l) x u') (omega arith) (adds f)

  pub fine-is : (v w : ℕ) → P v → is v ≡ is w → P w
  fine-is v w p e = subst P (ap (λ (s : Slot). valued s) e) p
    where
      valued : Slot → ℕ
      valued absent = 0
      valued (is v) = v

  fine-opened : (a : Set) (e : Env) → FineSet P a → FineSet P (opened a e)
  fine-opened a e f k v h = go (differs (a k) (e k)) h
    where
      go : (b : Bool) → cond b (a k) absent ≡ is v → P v
      go true h = f k v h
      go false h = absurd (true≢false (ap is_absent h))

  fine-former : (a : Set) (e : Env) → FineEnv P e → FineSet P (former a e)
  fine-former a e f k v h = go (differs (a k) (e k)) h
    where
      go : (b : Bool) → cond b (is (e k)) absent ≡ is v → P v
      go true h = fine-is (e k) v (f k) h
      go false h = absurd (true≢false (ap is_absent h))

  pub settled-grows : {u u' : ℕ} (a : Set) → FineSet P a → (f : Set → Move) (H : List Glyph → Type 0) → ((r : Set) → FineSet P r → Growing (f r) H u u') → Growing (settled a f) H u u'
  settled-grows {u} a fa f H h e l m fe fl hh =
      grows_then e l m (settle a l m) (opening a f) H fe fl (settle-grows a l m u)
      (λ e₁ l₁ m₁ fe₁ fl₁ hh₁. grows_then e₁ l₁ m₁ (put_marks (opened a e₁) l₁ m₁) (f (former a e₁)) H fe₁ fl₁ (put_marks-grows (opened a e₁) (fine-opened a e₁ fa) l₁ m₁ u) (h (former a e₁) (fine-former a e₁ fe₁)) hh₁)
      (subst H (sym (seen_same 0 0 (settle a l m) [] l (settle-reads 0 a l m 0))) hh)

  -- the edits as moves
  pub plain_text-grows : {u u' : ℕ} {w : What} → Fresh N w u u' → Growing (plain_text w) Anyway u u'
  plain_text-grows {u} {w = w} f e l m fe fl hh = grows_then e l m (settle empty l m) (put_new w) Anyway fe fl (settle-grows empty l m u) (put_new-grows f) tt

  pub plain_embed-grows : {u u' : ℕ} {w : What} → Fresh N w u u' → Growing (plain_embed w) Anyway u u'
  plain_embed-grows f = put_new-grows f

  fine-null : (s : Slot) (x : ℕ) → P 0 → ((v : ℕ) → s ≡ is v → P v) → (v : ℕ) → null_for s x ≡ is v → P v
  fine-null (is w) x z f v h = f v h
  fine-null absent x z f v h = go (eqb x 0) h
    where
      go : (b : Bool) → cond b absent (is 0) ≡ is v → P v
      go true h = absurd (true≢false (ap is_absent h))
      go false h = fine-is 0 v z h

  pub insert-grows : {u u' : ℕ} {w : What} → Fresh N w u u' → P 0 → (a : Set) → FineSet P a → Growing (insert_with w a) Anyway u u'
  insert-grows {u} {u'} {w} f z a fa e l m fe fl hh =
      settled-grows (completed a e) (λ k v h. fine-null (a k) (e k) z (fa k) v h) (put_close w) Anyway
      (λ r fr e₁ l₁ m₁ fe₁ fl₁ hh₁. grows_then e₁ l₁ m₁ (put_new w e₁ l₁ m₁) (closing r) Anyway fe₁ fl₁ (put_new-grows f e₁ l₁ m₁ fe₁ fl₁ tt) (λ e₂ l₂ m₂ fe₂ fl₂ hh₂. close-grows r fr l₂ m₂ u') tt)
      e l m fe fl tt

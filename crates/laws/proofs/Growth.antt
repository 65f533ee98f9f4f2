-- Format, Remove, the edits by index and a delta, taken apart into the steps of `Grown`.
use Prim.Native.Nat.{ℕ, zero, suc, ◌+◌, ◌-◌, ◌<◌}
use mathlib.Core.Path.{◌≡◌, refl, sym, ap, ◌∙◌, subst}
use mathlib.Core.Bool.{Bool, true, false, cond, not, ◌&&◌, false≢true, true≢false}
use mathlib.Core.List.{List, [], ◌∷◌, ◌++◌, map}
use native.Mathlib.Nat.{add-zero}
use native.Mathlib.Omega.{arith}
use lib.Dec.{eqb, leb}
use lib.ListN.{drop}
use borrow.Author.Tests.{leb-true, leb-false}
use Rattle.sets.specs.Sets.{absent, is, is_absent, bare, Set, Env, none, keys, slot_is, is_none}
use Rattle.rules.specs.Sheet.{What, text, embed, mark, Item, kill, width}
use Rattle.rules.specs.Reading.{live, Glyph, seen_glyphs, force, Op, insert, delete, retain}
use Rattle.rules.specs.Places.{At, whole, stay, over, Move, after, and_then, split, place, close}
use Rattle.rules.specs.Edits.{by_index, closing, insert_with, key_in, remember, walks_on, format_walk, walking, format, kill_units, to_end, idle, tidy_item, tidy, delete_here, remove_here, remove}
use Rattle.rules.specs.Delta.{Given, new_text, new_embed, insert_here, move, carry_out, delta}
use Rattle.rules.specs.Rulings.{FineSet}
use Rattle.laws.proofs.Lists.{zero_key, positive}
use Rattle.laws.proofs.Grown.{embeds, texts, Grown, same, then, under, kills, halves}
use Rattle.laws.proofs.Steps.{FineWhat, FineList, Anyway, Cuttable, Grows, Growing, under_all, grows_then, clean-item, place-grows, close-grows, fine-is, settled-grows, insert-grows}
use Rattle.laws.proofs.Cuts.{Clean, clean-cut, seen-right, seen_same, place-seen}
use Rattle.laws.proofs.Insert.{insert-reads}
use Rattle.laws.proofs.Format.{format-reads}
use Rattle.laws.proofs.Remove.{end_whole, delete-reads}
use Rattle.laws.proofs.Places.{item}

module _ (P C : ℕ → Type 0) (N : What → Type 0) where
  -- Format
  fine-remember : (a : Set) (w : What) (r : Set) → FineWhat P w → FineSet P r → FineSet P (remember a w r)
  fine-remember a (text s n) r h f k v e = f k v e
  fine-remember a (embed x) r h f k v e = f k v e
  fine-remember a (mark c y) r h f k v e = go (eqb k c) (slot_is (a c) y) e
    where
      go : (b b' : Bool) → cond b (cond b' absent (is y)) (r k) ≡ is v → P v
      go true true e = absurd (true≢false (ap is_absent e))
      go true false e = fine-is P C N y v h e
      go false b' e = f k v e

  walk-cut : (r : Set) → FineSet P r → (k : ℕ) (w : What) (x g : Bool) (n : ℕ) (l : List Item) (m u : ℕ) → walks_on n r (item k w false x g) ≡ true → leb (width w) n ≡ false → Clean C (seen_glyphs (item k w false x g ∷ l)) n
      → Grows P C N (item k w false x g ∷ l) m u (and_then none (split n (item k w false x g) l m) (closing r)) u
  walk-cut r fr k (text s y) x g n l m u e e' fl =
      then (halves k s y (record { dead = false; added = x; gone = g }) n (positive n (not (bare keys r)) e) (leb-false y n e') (clean-cut C s n y (seen_glyphs l) (positive n (not (bare keys r)) e) (leb-false y n e') fl)) (under (close-grows P C N r fr _ (suc m) u))
  walk-cut r fr k (embed y) x g n l m u e e' fl = absurd (omega (arith, positive n (not (bare keys r)) e, leb-false 1 n e'))
  walk-cut r fr k (mark c y) x g n l m u e e' fl = absurd (omega (arith, leb-false 0 n e'))

  clean-mark : (a : Set) (k : ℕ) (w : What) (x g : Bool) (n : ℕ) (l : List Item) → key_in a w ≡ true → Clean C (seen_glyphs (item k w false x g ∷ l)) n → Clean C (seen_glyphs l) n
  clean-mark a k (text s y) x g n l h c = absurd (false≢true h)
  clean-mark a k (embed y) x g n l h c = absurd (false≢true h)
  clean-mark a k (mark c' y) x g n l h c = c

  walk-item : (a : Set) (k : ℕ) (w : What) (d x g : Bool) (l : List Item) (m n : ℕ) (r : Set) (u : ℕ) → FineWhat P w → Clean C (seen_glyphs (item k w d x g ∷ l)) n → FineSet P r → ((n : ℕ) (r : Set) → FineSet P r → Clean C (seen_glyphs l) n → Grows P C N l m u (format_walk a n r l m) u)
      → Grows P C N (item k w d x g ∷ l) m u (format_walk a n r (item k w d x g ∷ l) m) u
  walk-item a k w true x g l m n r u fw fl fr ih = go (walks_on n r (item k w true x g))
    where
      go : (b : Bool) → Grows P C N (item k w true x g ∷ l) m u (cond b (over (item k w true x g) (format_walk a n r l m)) (close r (item k w true x g ∷ l) m)) u
      go true = under (ih n r fr fl)
      go false = close-grows P C N r fr (item k w true x g ∷ l) m u
  walk-item a k w false x g l m n r u fw fl fr ih = go (walks_on n r i) refl (key_in a w) refl (leb (width w) n) refl
    where
      i : Item
      i = item k w false x g

      go : (b : Bool) → walks_on n r i ≡ b → (b' : Bool) → key_in a w ≡ b' → (b'' : Bool) → leb (width w) n ≡ b''
          → Grows P C N (i ∷ l) m u (cond b (cond b' (over (kill i) (format_walk a n (remember a w r) l m))
          (cond b'' (over i (format_walk a (n - width w) r l m)) (and_then none (split n i l m) (closing r)))) (close r (i ∷ l) m)) u
      go false e b' e₁ b'' e₂ = close-grows P C N r fr (i ∷ l) m u
      go true e true e₁ b'' e₂ = then (kills i refl) (under (ih n (remember a w r) (fine-remember a w r fw fr) (clean-mark a k w x g n l e₁ fl)))
      go true e false e₁ true e₂ = under (ih (n - width w) r fr (clean-item P C N k w false x g n l (leb-true (width w) n e₂) fl))
      go true e false e₁ false e₂ = walk-cut r fr k w x g n l m u e e₂ fl

  walk-grows : (a : Set) (l : List Item) (m u : ℕ) → FineList P l → (n : ℕ) (r : Set) → FineSet P r → Clean C (seen_glyphs l) n → Grows P C N l m u (format_walk a n r l m) u
  walk-grows a [] m u fl n r fr c = close-grows P C N r fr [] m u
  walk-grows a (i ∷ l) m u fl n r fr c = walk-item a i.num i.what i.flags.dead i.flags.added i.flags.gone l m n r u fl.0 c fr (walk-grows a l m u fl.1)

  pub format-grows : (a : Set) → FineSet P a → (n u : ℕ) → Growing P C N (format a n) (Cuttable C n) u u
  format-grows a fa n u = settled-grows P C N a fa (walking a n) (Cuttable C n) (λ r fr e l m fe fl hh. walk-grows a l m u fl n r fr hh)

  -- Remove
  kill-item : (k : ℕ) (w : What) (d x g : Bool) (n : ℕ) (l : List Item) (m u : ℕ) → Clean C (seen_glyphs (item k w d x g ∷ l)) (suc n) → ((n : ℕ) → Clean C (seen_glyphs l) n → Grows P C N l m u (kill_units n l m) u)
      → Grows P C N (item k w d x g ∷ l) m u (kill_units (suc n) (item k w d x g ∷ l) m) u
  kill-item k w true x g n l m u c ih = under (ih (suc n) c)
  kill-item k (mark c' y) false x g n l m u c ih = under (ih (suc n) c)
  kill-item k (embed y) false x g n l m u c ih = go (leb 1 (suc n)) refl
    where
      i : Item
      i = item k (embed y) false x g

      go : (b : Bool) → leb 1 (suc n) ≡ b → Grows P C N (i ∷ l) m u (cond b (over (kill i) (kill_units (suc n - 1) l m)) (record { left = map kill (split (suc n) i l m).left; right = (split (suc n) i l m).right; next = suc m })) u
      go true e = then (kills i refl) (under (ih (suc n - 1) (clean-item P C N k (embed y) false x g (suc n) l (leb-true 1 (suc n) e) c)))
      go false e = absurd (omega (arith, leb-false 1 (suc n) e))
  kill-item k (text s y) false x g n l m u c ih = go (leb y (suc n)) refl
    where
      i : Item
      i = item k (text s y) false x g

      go : (b : Bool) → leb y (suc n) ≡ b → Grows P C N (i ∷ l) m u (cond b (over (kill i) (kill_units (suc n - y) l m)) (record { left = map kill (split (suc n) i l m).left; right = (split (suc n) i l m).right; next = suc m })) u
      go true e = then (kills i refl) (under (ih (suc n - y) (clean-item P C N k (text s y) false x g (suc n) l (leb-true y (suc n) e) c)))
      go false e = then (halves k s y i.flags (suc n) (omega arith) (leb-false y (suc n) e) (clean-cut C s (suc n) y (seen_glyphs l) (omega arith) (leb-false y (suc n) e) c)) (kills (item k (text s (suc n)) false x g) refl)

  kill-grows : (n : ℕ) (l : List Item) (m u : ℕ) → Clean C (seen_glyphs l) n → Grows P C N l m u (kill_units n l m) u
  kill-grows n [] m u c = same
  kill-grows zero (i ∷ l) m u c = same
  kill-grows (suc n) (i ∷ l) m u c = kill-item i.num i.what i.flags.dead i.flags.added i.flags.gone n l m u c (λ n. kill-grows n l m u)

  tidied : (s e : Env) (i : Item) (l : List Item) (m u : ℕ) → Grown P C N (i ∷ l) m u (tidy_item s e i ∷ l) m u
  tidied s e i l m u = go i.flags.dead refl (idle s e i.what)
    where
      go : (d : Bool) → i.flags.dead ≡ d → (b : Bool) → Grown P C N (i ∷ l) m u (cond (not d && b) (kill i) i ∷ l) m u
      go true q b = same
      go false q true = kills i q
      go false q false = same

  tidy-all : (s e : Env) (g l : List Item) (m u : ℕ) → Grown P C N (g ++ l) m u (map (tidy_item s e) g ++ l) m u
  tidy-all s e [] l m u = same
  tidy-all s e (i ∷ g) l m u = then (tidied s e i (g ++ l) m u) (under (tidy-all s e g l m u))

  tidy-grows : (s : Env) (p : At) (u : ℕ) → Grown P C N (whole p) p.next u (whole (tidy s p)) p.next u
  tidy-grows s p u =
      then
      (tidy-all s e p.left p.right p.next u)
      (under_all P C N (map (tidy_item s e) p.left)
      (subst (λ (x : List Item). Grown P C N x p.next u (map (tidy_item s e) q.left ++ q.right) p.next u) (end_whole p.right p.next) (tidy-all s e q.left q.right p.next u)))
    where
      q : At
      q = to_end p.right p.next

      e : Env
      e = after s (p.left ++ q.left)

  pub delete-grows : (n u : ℕ) → Growing P C N (delete_here n) (Cuttable C n) u u
  delete-grows zero u e l m fe fl c = same
  delete-grows (suc n) u e l m fe fl c = then (kill-grows (suc n) l m u c) (tidy-grows e (kill_units (suc n) l m) u)

  pub remove_here-grows : (n u : ℕ) → Growing P C N (remove_here n) (Cuttable C n) u u
  remove_here-grows n u e l m fe fl c = go (is_none keys e)
    where
      go : (b : Bool) → Grows P C N l m u (cond b (kill_units n l m) (tidy e (kill_units n l m))) u
      go true = kill-grows n l m u c
      go false = then (kill-grows n l m u c) (tidy-grows e (kill_units n l m) u)

  -- by index, and a delta
  pub index-grows : {u u' : ℕ} → P 0 → (i : ℕ) (f : Move) (H : List Glyph → Type 0) → Growing P C N f H u u' → (l : List Item) (m : ℕ) → FineList P l → Clean C (seen_glyphs l) i → H (drop i (seen_glyphs l)) → Grows P C N l m u (by_index i f l m) u'
  index-grows {u} z i f H h l m fl c hh = grows_then P C N none l m (place i l m) f H (λ k. z) fl (place-grows P C N i l m u c) h (subst H (sym (place-seen i l m)) hh)

  pub remove-grows : P 0 → (i n : ℕ) (l : List Item) (m u : ℕ) → FineList P l → Clean C (seen_glyphs l) i → Clean C (drop i (seen_glyphs l)) n → Grows P C N l m u (remove i n l m) u
  remove-grows z i zero l m u fl c c' = same
  remove-grows z i (suc n) l m u fl c c' = index-grows z i (remove_here (suc n)) (Cuttable C (suc n)) (remove_here-grows (suc n) u) l m fl c c'

  -- a delta whose texts stand one after the other from u on, whose sets are fine, and which cuts these glyphs where it may
  pub data LaidOut : List (Op Given) → List Glyph → ℕ → ℕ → Type 0 where
    end : {gs : List Glyph} {u : ℕ} → LaidOut [] gs u u
    words : {ops : List (Op Given)} {gs : List Glyph} {u u' : ℕ} (n : ℕ) (a : Set) → (0 < n → N (text u n)) → FineSet P a → LaidOut ops gs (u + n) u' → LaidOut (insert (new_text u n) a ∷ ops) gs u u'
    object : {ops : List (Op Given)} {gs : List Glyph} {u u' : ℕ} (x : ℕ) (a : Set) → N (embed x) → FineSet P a → LaidOut ops gs u u' → LaidOut (insert (new_embed x) a ∷ ops) gs u u'
    drops : {ops : List (Op Given)} {gs : List Glyph} {u u' : ℕ} (n : ℕ) → Clean C gs n → LaidOut ops (drop n gs) u u' → LaidOut (delete n ∷ ops) gs u u'
    keeps : {ops : List (Op Given)} {gs : List Glyph} {u u' : ℕ} (n : ℕ) (a : Set) → FineSet P a → Clean C gs n → LaidOut ops (drop n gs) u u' → LaidOut (retain n a ∷ ops) gs u u'

  text-grows : P 0 → (n u : ℕ) (a : Set) → (0 < n → N (text u n)) → FineSet P a → Growing P C N (insert_here (new_text u n) a) Anyway u (u + n)
  text-grows z zero u a nn fa e l m fe fl hh = subst (λ (x : ℕ). Grown P C N l m u l m x) (sym (add-zero u)) same
  text-grows z (suc n) u a nn fa e l m fe fl hh = insert-grows P C N (texts (suc n) (omega arith) (nn (omega arith))) z a fa e l m fe fl hh

  text-seen : (n u : ℕ) (a : Set) (e : Env) (l : List Item) (m : ℕ) → seen_glyphs (insert_here (new_text u n) a e l m).right ≡ seen_glyphs l
  text-seen zero u a e l m = refl
  text-seen (suc n) u a e l m = seen_same 0 (e 0) (insert_with (text u (suc n)) a e l m) _ l (insert-reads 0 zero_key (text u (suc n)) a e l m refl)

  carry-grows : P 0 → (ops : List (Op Given)) (l : List Item) (m : ℕ) (p : At) {gs : List Glyph} {u u₁ u' : ℕ} → FineList P l → LaidOut ops gs u₁ u' → seen_glyphs p.right ≡ gs → Grows P C N l m u p u₁ → Grows P C N l m u (carry_out ops p) u'
  carry-grows z [] l m p fl end q g = g
  carry-grows z (insert c a ∷ ops) l m p fl (words {u = u₁} n a' nn fa o) q g =
      carry-grows z ops l m (and_then none p (move (insert (new_text u₁ n) a'))) fl o (text-seen n u₁ a' (after none p.left) p.right p.next ∙ q)
      (grows_then P C N none l m p (move (insert (new_text u₁ n) a')) Anyway (λ k. z) fl g (text-grows z n u₁ a' nn fa) tt)
  carry-grows z (insert c a ∷ ops) l m p fl (object x a' nn fa o) q g =
      carry-grows z ops l m (and_then none p (move (insert (new_embed x) a'))) fl o (seen_same 0 (force live 0 0 p.left) (insert_with (embed x) a' (after none p.left) p.right p.next) _ p.right (insert-reads 0 zero_key (embed x) a' (after none p.left) p.right p.next refl) ∙ q)
      (grows_then P C N none l m p (move (insert (new_embed x) a')) Anyway (λ k. z) fl g (insert-grows P C N (embeds x nn) z a' fa) tt)
  carry-grows z (delete n ∷ ops) l m p {u₁ = u₁} fl (drops n' c o) q g =
      carry-grows z ops l m (and_then none p (move (delete n'))) fl o (seen-right 0 (force live 0 0 p.left) (delete_here n' (after none p.left) p.right p.next) _ n' p.right (delete-reads 0 n' (after none p.left) p.right p.next) ∙ ap (drop n') q)
      (grows_then P C N none l m p (move (delete n')) (Cuttable C n') (λ k. z) fl g (delete-grows n' u₁) (subst (λ (x : List Glyph). Clean C x n') (sym q) c))
  carry-grows z (retain n a ∷ ops) l m p {u₁ = u₁} fl (keeps n' a' fa c o) q g =
      carry-grows z ops l m (and_then none p (move (retain n' a'))) fl o (seen-right 0 (force live 0 0 p.left) (format a' n' (after none p.left) p.right p.next) _ n' p.right (format-reads 0 zero_key a' n' (after none p.left) p.right p.next) ∙ ap (drop n') q)
      (grows_then P C N none l m p (move (retain n' a')) (Cuttable C n') (λ k. z) fl g (format-grows a' fa n' u₁) (subst (λ (x : List Glyph). Clean C x n') (sym q) c))

  pub delta-grows : P 0 → (ops : List (Op Given)) (l : List Item) (m u u' : ℕ) → FineList P l → LaidOut ops (seen_glyphs l) u u' → Grows P C N l m u (delta ops l m) u'
  delta-grows z ops l m u u' fl o = carry-grows z ops l m (stay l m) fl o refl same

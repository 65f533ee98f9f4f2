-- Inserting, seen by any key: the new units stand at the index with the attributes that the rule says, and nothing else changes.
use Prim.Native.Nat.{ℕ, ◌+◌}
use mathlib.Core.Path.{◌≡◌, refl, ap, ◌∙◌}
use mathlib.Core.Bool.{Bool, true, false, cond, true≢false}
use mathlib.Core.List.{List, [], ◌∷◌, ◌++◌, append-nil}
use lib.Dec.{eqb}
use lib.ListN.{take, drop}
use borrow.Author.Tests.{eqb-true}
use Rattle.sets.specs.Sets.{Slot, absent, is, Set, Env, empty, keys, lay, null_for, completed}
use Rattle.rules.specs.Sheet.{What, text, embed, mark, Item, new, is_mark}
use Rattle.rules.specs.Reading.{live, glyphs, paint, cells, force, set_key}
use Rattle.rules.specs.Places.{whole, place, settle, put}
use Rattle.rules.specs.Edits.{by_index, put_new, plain_text, plain_embed, closing, put_close, insert_with}
use Rattle.laws.proofs.Lists.{In}
use Rattle.laws.proofs.Places.{Reads, reads_as, reads_end, reads_then, settle-reads, settle-keeps, close-reads, index-cells, index-end}
use Rattle.laws.proofs.Opening.{settled-reads}

module _ (j : ℕ) where
  no_key : (w : What) (v : ℕ) → is_mark w ≡ false → set_key j w v ≡ v
  no_key (text s n) v h = refl
  no_key (embed e) v h = refl
  no_key (mark k x) v h = absurd (true≢false h)

  put_reads : (w : What) (l : List Item) (m v : ℕ) → is_mark w ≡ false → Reads j v (put (new m w ∷ []) l m) (paint v (glyphs w)) (cells live j v l) (force live j v l)
  put_reads w l m v h = record { left = append-nil (paint v (glyphs w)); right = ap (λ (x : ℕ). cells live j x l) (no_key w v h); end = ap (λ (x : ℕ). force live j x l) (no_key w v h) }

  module _ (jk : In j keys) where
    carries : (s : Slot) (e v : ℕ) → (null_for s e ≡ absent → v ≡ e) → lay (null_for s e) v ≡ lay s 0
    carries (is w) e v h = refl
    carries absent e v h = go (eqb e 0) refl
      where
        go : (b : Bool) → eqb e 0 ≡ b → lay (cond b absent (is 0)) v ≡ 0
        go true q = h (ap (λ (b : Bool). cond b absent (is 0)) q) ∙ eqb-true e 0 q
        go false q = refl

    -- Text or embed with A: the new units carry exactly A
    pub insert-reads : (w : What) (a : Set) (e : Env) (l : List Item) (m : ℕ) → is_mark w ≡ false
        → Reads j (e j) (insert_with w a e l m) (paint (lay (a j) 0) (glyphs w)) (cells live j (e j) l) (force live j (e j) l)
    insert-reads w a e l m h =
        settled-reads j jk (completed a e) (put_close w) e l m (λ cs. paint (lay (a j) 0) (glyphs w)) (λ cs. cs)
        (λ v now r e₂ l₂ m₂ k inv.
        reads_as (append-nil (paint now (glyphs w)) ∙ ap (λ (x : ℕ). paint x (glyphs w)) (inv.laid ∙ carries (a j) (e j) v k)) refl
        (reads_then j now e₂ (put_new w e₂ l₂ m₂) (closing r) (paint now (glyphs w)) (cells live j now l₂) [] (cells live j v l₂)
        (put_reads w l₂ m₂ now h)
        (close-reads j r l₂ (m₂ + 1) v (set_key j w now) jk (ap (lay (r j)) (no_key w now h) ∙ inv.owed))))

  pub plain_text-reads : (w : What) (e : Env) (l : List Item) (m : ℕ) → is_mark w ≡ false
      → Reads j (e j) (plain_text w e l m) (paint (e j) (glyphs w)) (cells live j (e j) l) (force live j (e j) l)
  plain_text-reads w e l m h =
      reads_then j (e j) e (settle empty l m) (put_new w) [] _ (paint (e j) (glyphs w)) (cells live j (e j) l)
      (settle-reads j empty l m (e j))
      (reads_end (settle-reads j empty l m (e j)).end
      (reads_as (ap (λ (x : ℕ). paint x (glyphs w)) (settle-keeps j empty l m (e j) refl)) (settle-reads j empty l m (e j)).right
      (put_reads w (settle empty l m).right (settle empty l m).next (force live j (e j) (settle empty l m).left) h)))

  pub plain_embed-reads : (w : What) (e : Env) (l : List Item) (m : ℕ) → is_mark w ≡ false
      → Reads j (e j) (plain_embed w e l m) (paint (e j) (glyphs w)) (cells live j (e j) l) (force live j (e j) l)
  plain_embed-reads w e l m h = put_reads w l m (e j) h

  -- By index. Plain text and plain embeds take what is in force at the place.
  pub plain_text-cells : (i : ℕ) (w : What) (l : List Item) (m : ℕ) → is_mark w ≡ false
      → cells live j 0 (whole (by_index i (plain_text w) l m)) ≡ take i (cells live j 0 l) ++ paint (force live j 0 (place i l m).left) (glyphs w) ++ drop i (cells live j 0 l)
  plain_text-cells i w l m h = index-cells j i (plain_text w) l m (λ v cs. paint v (glyphs w)) (λ cs. cs) (λ e l m. plain_text-reads w e l m h)

  pub plain_embed-cells : (i : ℕ) (w : What) (l : List Item) (m : ℕ) → is_mark w ≡ false
      → cells live j 0 (whole (by_index i (plain_embed w) l m)) ≡ take i (cells live j 0 l) ++ paint (force live j 0 (place i l m).left) (glyphs w) ++ drop i (cells live j 0 l)
  plain_embed-cells i w l m h = index-cells j i (plain_embed w) l m (λ v cs. paint v (glyphs w)) (λ cs. cs) (λ e l m. plain_embed-reads w e l m h)

  pub insert-cells : In j keys → (i : ℕ) (w : What) (a : Set) (l : List Item) (m : ℕ) → is_mark w ≡ false
      → cells live j 0 (whole (by_index i (insert_with w a) l m)) ≡ take i (cells live j 0 l) ++ paint (lay (a j) 0) (glyphs w) ++ drop i (cells live j 0 l)
  insert-cells jk i w a l m h = index-cells j i (insert_with w a) l m (λ v cs. paint (lay (a j) 0) (glyphs w)) (λ cs. cs) (λ e l m. insert-reads jk w a e l m h)

  -- and none of them changes what is in force at the list's end
  pub plain_text-end : (i : ℕ) (w : What) (l : List Item) (m : ℕ) → is_mark w ≡ false → force live j 0 (whole (by_index i (plain_text w) l m)) ≡ force live j 0 l
  plain_text-end i w l m h = index-end j i (plain_text w) l m (λ v cs. paint v (glyphs w)) (λ cs. cs) (λ e l m. plain_text-reads w e l m h)

  pub plain_embed-end : (i : ℕ) (w : What) (l : List Item) (m : ℕ) → is_mark w ≡ false → force live j 0 (whole (by_index i (plain_embed w) l m)) ≡ force live j 0 l
  plain_embed-end i w l m h = index-end j i (plain_embed w) l m (λ v cs. paint v (glyphs w)) (λ cs. cs) (λ e l m. plain_embed-reads w e l m h)

  pub insert-end : In j keys → (i : ℕ) (w : What) (a : Set) (l : List Item) (m : ℕ) → is_mark w ≡ false → force live j 0 (whole (by_index i (insert_with w a) l m)) ≡ force live j 0 l
  insert-end jk i w a l m h = index-end j i (insert_with w a) l m (λ v cs. paint (lay (a j) 0) (glyphs w)) (λ cs. cs) (λ e l m. insert-reads jk w a e l m h)

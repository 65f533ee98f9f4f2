-- Rule Format's walk, turn by turn. Assumes nothing.
use Prim.Native.Nat.{ℕ, ◌+◌, ◌-◌, ◌<◌, ◌≤◌}
use native.Mathlib.Omega.{arith}
use mathlib.Core.Path.{◌≡◌, refl, sym, ap, ◌∙◌}
use mathlib.Core.Bool.{Bool, true, false, cond, not, ◌&&◌, ◌||◌, false≢true}
use mathlib.Core.List.{List, [], ◌∷◌}
use lib.Dec.{leb, ltb}
use borrow.Author.Tests.{ltb-true, leb-true, leb-false}
use Rattle.sets.specs.Sets.{Set, Env, keys, bare}
use Rattle.rules.specs.Sheet.{What, text, embed, mark, Item, dead, kill, width}
use Rattle.rules.specs.Places.{At, Move, over, split, and_then, close}
use Rattle.rules.specs.Edits.{key_in, remember, closing, walking, format_walk}
use Rattle.layout.specs.declared.head.Head.{Head}
use Rattle.layout.specs.Chain.{item_at}
use Rattle.arena.specs.declared.Place.{Place}
use Rattle.arena.specs.Places.{Going, Carried, forward_of, ahead, halving}
use Rattle.arena.proofs.Carried.{carried-then}
use Rattle.arena.proofs.Walks.{going_end, going-here, going-ahead, going-kill, going-by}
use Rattle.edits.specs.declared.format.Turn.{Turn}
use Rattle.edits.specs.declared.format.Turn.TheVariants.{Stop, Pass, Mark, Through, Cut}
use Rattle.edits.specs.Formats.{live_turn, walks_over, turn_of, killed_if, left_after, remembered_after}

-- ---- the rule, by its turns
module _ (a : Set) (n : ℕ) (r : Set) (i : Item) (l : List Item) (m : ℕ) where
  -- the four ways on, and the stop
  abbrev way : Turn → At
  way Stop = close r (i ∷ l) m
  way Pass = over i (format_walk a n r l m)
  way Mark = over (kill i) (format_walk a n (remember a i.what r) l m)
  way Through = over i (format_walk a (n - width i.what) r l m)
  way Cut = and_then (λ k. 0) (split n i l m) (closing r)

  pub by_turn : format_walk a n r (i ∷ l) m ≡ way (turn_of a n r (dead i) i.what)
  unfolding turn_of live_turn
  by_turn = go (walks_over n r (dead i) i.what) (dead i) (key_in a i.what) (leb (width i.what) n)
    where
      go : (w d k f : Bool)
          → cond w (cond d (way Pass) (cond k (way Mark) (cond f (way Through) (way Cut)))) (way Stop) ≡ way (cond w (cond d Pass (cond k Mark (cond f Through Cut))) Stop)
      go false d k f = refl
      go true true k f = refl
      go true false true f = refl
      go true false false true = refl
      go true false false false = refl

-- what is gone through is not longer than what is left
pub through_means : (a : Set) (n : ℕ) (r : Set) (d : Bool) (w : What) → turn_of a n r d w ≡ Through → width w ≤ n
unfolding turn_of live_turn
through_means a n r d w e = go (walks_over n r d w) d (key_in a w) (leb (width w) n) refl e
  where
    go : (x y k l : Bool) → leb (width w) n ≡ l → cond x (cond y Pass (cond k Mark (cond l Through Cut))) Stop ≡ Through → width w ≤ n
    go false y k l el z = cc
    go true true k l el z = cc
    go true false true l el z = cc
    go true false false true el z = leb-true (width w) n el
    go true false false false el z = cc

-- a text is cut only where length is left that ends inside it
pub cut_means : (a : Set) (n : ℕ) (r : Set) (d : Bool) (w : What) → turn_of a n r d w ≡ Cut → (0 < n) × (n < width w)
unfolding turn_of live_turn
cut_means a n r d w e = go (walks_over n r d w) refl d refl (key_in a w) (leb (width w) n) refl e
  where
    length-left : (b c : Bool) → ltb 0 n ≡ b → (b || (c && false)) ≡ true → 0 < n
    length-left true c q z = ltb-true 0 n q
    length-left false true q z = absurd (false≢true z)
    length-left false false q z = absurd (false≢true z)

    some : (v : What) → walks_over n r false v ≡ true → n < width v → 0 < n
    some (text s l) q z = length-left (ltb 0 n) (not (bare keys r)) refl q
    some (embed x) q z = length-left (ltb 0 n) (not (bare keys r)) refl q
    some (mark k v) q z = absurd (omega arith)

    go : (x : Bool) → walks_over n r d w ≡ x → (y : Bool) → d ≡ y → (k l : Bool) → leb (width w) n ≡ l → cond x (cond y Pass (cond k Mark (cond l Through Cut))) Stop ≡ Cut → (0 < n) × (n < width w)
    go false ex y ey k l el z = absurd cc
    go true ex true ey k l el z = absurd cc
    go true ex false ey true l el z = absurd cc
    go true ex false ey false true el z = absurd cc
    go true ex false ey false false el z = let long = leb-false (width w) n el in (some w (rw ey at ex) long, long)

-- ---- the turns
module _ {f : Move} {h : Head} {m : List ℕ} {p : Place} (a : Set) {n : ℕ} {r : Set} {h₁ : Head} {m₁ : List ℕ} {p₁ : Place} (o : Going f h m p (walking a n r) h₁ m₁ p₁) where
  pub walked_end : p₁.todo ≤ 0 → Going f h m p (closing r) h₁ m₁ p₁
  walked_end z = going_end o z (closing r) (λ e k. refl)

  module _ (more : 0 < p₁.todo) {t : Turn} (is : t ≡ turn_of a n r (dead (item_at m₁ p₁.right)) (item_at m₁ p₁.right).what) where
    turned : (l : List Item) (k : ℕ) → format_walk a n r (item_at m₁ p₁.right ∷ l) k ≡ way a n r (item_at m₁ p₁.right) l k t
    turned l k = by_turn a n r (item_at m₁ p₁.right) l k ∙ ap (way a n r (item_at m₁ p₁.right) l k) (sym is)

  module _ (more : 0 < p₁.todo) where
    pub walked_stop : Stop ≡ turn_of a n r (dead (item_at m₁ p₁.right)) (item_at m₁ p₁.right).what → Going f h m p (closing r) h₁ m₁ p₁
    walked_stop t = going-here o more (closing r) (λ e l k. turned more t l k)

    pub walked-cut : Cut ≡ turn_of a n r (dead (item_at m₁ p₁.right)) (item_at m₁ p₁.right).what → {h₂ : Head} {m₂ : List ℕ} {p₂ p₃ : Place} → Carried (halving n) h₁ m₁ p₁ h₂ m₂ p₂
        → Carried ahead h₂ m₂ p₂ h₂ m₂ p₃ → Going f h m p (closing r) h₂ m₂ p₃
    walked-cut t c d = going-by o more (carried-then c d) (closing r) (λ e l k. turned more t l k)

    pub walked_on : (t : Turn) → t ≡ turn_of a n r (dead (item_at m₁ p₁.right)) (item_at m₁ p₁.right).what → (t ≡ Stop → ⊥) → (t ≡ Cut → ⊥)
        → (k : List ℕ) → k ≡ killed_if t m₁ p₁.right → (q : Place) → q ≡ forward_of k p₁
        → (x : ℕ) → x ≡ left_after t n (item_at m₁ p₁.right).what → (s : Set) → s ≡ remembered_after t a (item_at m₁ p₁.right).what r
        → Going f h m p (walking a x s) h₁ k q
    walked_on Stop t no_stop no_cut k ek q eq x ex s es = absurd (no_stop refl)
    walked_on Pass t no_stop no_cut k ek q eq x ex s es = rw (ex, es, ek) (going-ahead o more q (rw ek at eq) (walking a n r) (λ e l j. turned more t l j))
    walked_on Mark t no_stop no_cut k ek q eq x ex s es =
        rw (ex, es) (going-kill o more k ek q eq (walking a n (remember a (item_at m₁ p₁.right).what r)) (λ e l j. turned more t l j))
    walked_on Through t no_stop no_cut k ek q eq x ex s es =
        rw (ex, es, ek) (going-ahead o more q (rw ek at eq) (walking a (n - width (item_at m₁ p₁.right).what) r) (λ e l j. turned more t l j))
    walked_on Cut t no_stop no_cut k ek q eq x ex s es = absurd (no_cut refl)

-- ---- room
pub halving-room : (n : ℕ) (e : Env) (l : List Item) (m : ℕ) → (halving n e l m).next ≤ m + 1
halving-room n e [] m = omega arith
halving-room n e (i ∷ l) m = omega arith

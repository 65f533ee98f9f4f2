-- The turns of Close's walk. Assumes nothing.
use Prim.Native.Nat.{ℕ, ◌<◌, ◌≤◌}
use mathlib.Core.Path.{◌≡◌, refl}
use mathlib.Core.Bool.{Bool, true, false, cond, ◌||◌, true≢false, false≢true}
use mathlib.Core.List.{List, ◌∷◌}
use Rattle.sets.specs.Sets.{Set}
use Rattle.rules.specs.Sheet.{Item, dead}
use Rattle.rules.specs.Places.{Move, over, agrees, forget, put_marks, close}
use Rattle.rules.specs.Edits.{closing}
use Rattle.layout.specs.declared.head.Head.{Head}
use Rattle.layout.specs.Chain.{item_at}
use Rattle.arena.specs.declared.Place.{Place}
use Rattle.arena.specs.Places.{Going, forward_of}
use Rattle.arena.proofs.Walks.{going_end, going-here, going-ahead}
use Rattle.marks.specs.Moves.{passable, putting, dropping}

-- ---- the rule, by its cases
module _ (r : Set) (i : Item) (l : List Item) (n : ℕ) where
  close-past : passable r i ≡ true → close r (i ∷ l) n ≡ over i (close (dropping r i) l n)
  close-past t = go (dead i) (agrees r i.what) t
    where
      go : (d a : Bool) → (d || a) ≡ true
          → cond d (over i (close r l n)) (cond a (over i (close (forget i.what r) l n)) (put_marks r (i ∷ l) n)) ≡ over i (close (cond d r (forget i.what r)) l n)
      go true a t = refl
      go false true t = refl
      go false false t = absurd (false≢true t)

  close-stop : passable r i ≡ false → close r (i ∷ l) n ≡ put_marks r (i ∷ l) n
  close-stop t = go (dead i) (agrees r i.what) t
    where
      go : (d a : Bool) → (d || a) ≡ false
          → cond d (over i (close r l n)) (cond a (over i (close (forget i.what r) l n)) (put_marks r (i ∷ l) n)) ≡ put_marks r (i ∷ l) n
      go true a t = absurd (true≢false t)
      go false true t = absurd (true≢false t)
      go false false t = refl

-- ---- the turns
module _ {f : Move} {h : Head} {m : List ℕ} {p : Place} {r : Set} {h₁ : Head} {m₁ : List ℕ} {p₁ : Place} (o : Going f h m p (closing r) h₁ m₁ p₁) where
  pub closed-end : p₁.todo ≤ 0 → Going f h m p (putting r) h₁ m₁ p₁
  closed-end z = going_end o z (putting r) (λ e n. refl)

  module _ (more : 0 < p₁.todo) where
    pub closed-stop : passable r (item_at m₁ p₁.right) ≡ false → Going f h m p (putting r) h₁ m₁ p₁
    closed-stop t = going-here o more (putting r) (λ e l n. close-stop r (item_at m₁ p₁.right) l n t)

    pub closed-past : passable r (item_at m₁ p₁.right) ≡ true → (s : Set) → s ≡ dropping r (item_at m₁ p₁.right) → (q : Place) → q ≡ forward_of m₁ p₁
        → Going f h m p (closing s) h₁ m₁ q
    closed-past t s es q eq = rw es (going-ahead o more q eq (closing (dropping r (item_at m₁ p₁.right))) (λ e l n. close-past r (item_at m₁ p₁.right) l n t))

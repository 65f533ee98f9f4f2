-- The turns of the walk to the end of a gap, and of the walk that tidies. Assumes nothing.
use Prim.Native.Nat.{ℕ, suc, ◌<◌, ◌≤◌}
use mathlib.Core.Path.{◌≡◌, refl, ap}
use mathlib.Core.Bool.{true, false, cond}
use mathlib.Core.List.{List, ◌∷◌}
use Rattle.sets.specs.Sets.{Env}
use Rattle.rules.specs.Sheet.{is_mark}
use Rattle.rules.specs.Places.{Move}
use Rattle.layout.specs.declared.head.Head.{Head}
use Rattle.layout.specs.Chain.{item_at}
use Rattle.arena.specs.declared.Place.{Place}
use Rattle.arena.specs.Places.{Carried, Going, forward_of, staying}
use Rattle.arena.specs.Writes.{kill_mem}
use Rattle.arena.proofs.Walks.{going_end, going-here, going-ahead, going-stopped}
use Rattle.removal.specs.Tidies.{ending, idle_item, tidy_first}
use Rattle.removal.proofs.Deletes.{going-if}

-- ---- to the end of a gap
module _ {f : Move} {h : Head} {m : List ℕ} {p : Place} {h₁ : Head} {m₁ : List ℕ} {p₁ : Place} (o : Going f h m p ending h₁ m₁ p₁) where
  pub ended-last : p₁.todo ≤ 0 → Carried f h m p h₁ m₁ p₁
  ended-last z = going-stopped (going_end o z staying (λ e n. refl))

  module _ (more : 0 < p₁.todo) where
    pub ended_here : is_mark (item_at m₁ p₁.right).what ≡ false → Carried f h m p h₁ m₁ p₁
    ended_here t = going-stopped (going-here o more staying (λ e l n. rw t))

    pub ended-past : is_mark (item_at m₁ p₁.right).what ≡ true → (q : Place) → q ≡ forward_of m₁ p₁ → Going f h m p ending h₁ m₁ q
    ended-past t q eq = going-ahead o more q eq ending (λ e l n. rw t)

-- ---- tidying
module _ {f : Move} {h : Head} {m : List ℕ} {p : Place} (k : ℕ) (s e : Env) {h₁ : Head} {m₁ : List ℕ} {p₁ : Place} (o : Going f h m p (tidy_first k s e) h₁ m₁ p₁) where
  pub tidied-past : 0 < p₁.todo → (j : ℕ) → k ≡ suc j → (n : List ℕ) → n ≡ cond (idle_item s e (item_at m₁ p₁.right)) (kill_mem m₁ p₁.right) m₁ → (q : Place) → q ≡ forward_of n p₁
      → Going f h m p (tidy_first j s e) h₁ n q
  tidied-past more j z n en q eq =
      let x = item_at m₁ p₁.right in
      going-if o more (idle_item s e x) n en q eq (tidy_first j s e) (λ a b l i. ap (λ (y : ℕ). tidy_first y s e a (x ∷ l) i) z)

-- The turns of Settle's walk. Assumes nothing.
use Prim.Native.Nat.{ℕ, ◌<◌, ◌≤◌}
use mathlib.Core.Path.{◌≡◌, refl}
use mathlib.Core.Bool.{true, false}
use mathlib.Core.List.{List}
use Rattle.sets.specs.Sets.{Set}
use Rattle.rules.specs.Places.{Move}
use Rattle.layout.specs.declared.head.Head.{Head}
use Rattle.layout.specs.Chain.{item_at}
use Rattle.arena.specs.declared.Place.{Place}
use Rattle.arena.specs.Places.{Carried, Going, forward_of, staying}
use Rattle.arena.proofs.Walks.{going_end, going-here, going-ahead, going-stopped}
use Rattle.marks.specs.Moves.{passable, settling}

module _ {f : Move} {h : Head} {m : List ℕ} {p : Place} (a : Set) {h₁ : Head} {m₁ : List ℕ} {p₁ : Place} (o : Going f h m p (settling a) h₁ m₁ p₁) where
  pub settled-end : p₁.todo ≤ 0 → Carried f h m p h₁ m₁ p₁
  settled-end z = going-stopped (going_end o z staying (λ e n. refl))

  module _ (more : 0 < p₁.todo) where
    pub settled-stop : passable a (item_at m₁ p₁.right) ≡ false → Carried f h m p h₁ m₁ p₁
    settled-stop t = going-stopped (going-here o more staying (λ e l n. rw t))

    pub settled-past : passable a (item_at m₁ p₁.right) ≡ true → (q : Place) → q ≡ forward_of m₁ p₁ → Going f h m p (settling a) h₁ m₁ q
    settled-past t q eq = going-ahead o more q eq (settling a) (λ e l n. rw t)

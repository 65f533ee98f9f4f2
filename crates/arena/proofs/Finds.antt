-- The turns of the walk to an index. Assumes nothing.
use Prim.Native.Nat.{ℕ, zero, suc, ◌-◌, ◌<◌, ◌≤◌}
use mathlib.Core.Path.{◌≡◌, refl, ap, ◌∙◌}
use mathlib.Core.List.{List, [], ◌∷◌}
use borrow.Author.Tests.{le-leb, lt-leb}
use Rattle.rules.specs.Sheet.{Item}
use Rattle.rules.specs.Places.{Move, stay, over, split, uses, place}
use Rattle.layout.specs.declared.head.Head.{Head}
use Rattle.layout.specs.Chain.{item_at}
use Rattle.arena.specs.declared.Place.{Place}
use Rattle.arena.specs.Places.{right_of, Carried, Going, forward_of, staying, halving, placing}
use Rattle.arena.proofs.Carried.{carried-then}
use Rattle.arena.proofs.Steps.{forward-carried, cut-more}
use Rattle.arena.proofs.Walks.{going-same, going_end, going-ahead, going-by, going-stopped}

-- ---- the rule, by its cases
place_end : (n m : ℕ) → place n [] m ≡ stay [] m
place_end zero m = refl
place_end (suc n) m = refl

place-zero : (l : List Item) (m : ℕ) → place 0 l m ≡ stay l m
place-zero [] m = refl
place-zero (i ∷ l) m = refl

place-past : (n : ℕ) (i : Item) (l : List Item) (m : ℕ) → (n ≡ 0 → ⊥) → uses i ≤ n → place n (i ∷ l) m ≡ over i (place (n - uses i) l m)
place-past zero i l m z h = absurd (z refl)
place-past (suc n) i l m z h = rw (le-leb (uses i) (suc n) h)

place_inside : (n : ℕ) (i : Item) (l : List Item) (m : ℕ) → (n ≡ 0 → ⊥) → n < uses i → place n (i ∷ l) m ≡ split n i l m
place_inside zero i l m z h = absurd (z refl)
place_inside (suc n) i l m z h = rw (lt-leb (uses i) (suc n) h)

-- ---- the turns
module _ {f : Move} {h : Head} {m : List ℕ} {p : Place} {r : ℕ} {h₁ : Head} {m₁ : List ℕ} {p₁ : Place} (o : Going f h m p (placing r) h₁ m₁ p₁) where
  pub found-zero : r ≡ 0 → Carried f h m p h₁ m₁ p₁
  found-zero z = going-stopped (going-same o staying (ap (λ (n : ℕ). place n (right_of h₁ m₁ p₁) h₁.items) z ∙ place-zero (right_of h₁ m₁ p₁) h₁.items))

  pub found-end : p₁.todo ≤ 0 → Carried f h m p h₁ m₁ p₁
  found-end z = going-stopped (going_end o z staying (λ e n. place_end r n))

  module _ (more : 0 < p₁.todo) (some : r ≡ 0 → ⊥) where
    pub found-past : uses (item_at m₁ p₁.right) ≤ r → (q : Place) → q ≡ forward_of m₁ p₁ → Going f h m p (placing (r - uses (item_at m₁ p₁.right))) h₁ m₁ q
    found-past l q eq =
        let x = item_at m₁ p₁.right in
        going-ahead o more q eq (placing (r - uses x)) (λ e l' n. place-past r x l' n some l)

    pub found-cut : r < uses (item_at m₁ p₁.right) → {h₂ : Head} {m₂ : List ℕ} {p₂ : Place} → Carried (halving r) h₁ m₁ p₁ h₂ m₂ p₂ → (q : Place) → q ≡ forward_of m₂ p₂
        → Carried f h m p h₂ m₂ q
    found-cut l c q eq =
        let x = item_at m₁ p₁.right in
        let d = forward-carried c.stands (cut-more o.stands more c).0 q eq in
        going-stopped (going-by o more (carried-then c d) staying (λ e l' n. place_inside r x l' n some l))

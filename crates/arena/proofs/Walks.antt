-- The turns of a walk: what is left to do, after an item is passed, deleted, or cut. Assumes nothing.
use Prim.Native.Nat.{ℕ, ◌+◌, ◌-◌, ◌<◌, ◌≤◌}
use native.Mathlib.Omega.{arith}
use mathlib.Core.Path.{◌≡◌, sym, ap, ap₂, ◌∙◌}
use mathlib.Core.List.{List, [], ◌∷◌, ◌++◌, append_assoc}
use lib.ListN.{length, length-append}
use lib.Seq.{length-take-le}
use Rattle.sets.specs.Sets.{Env, none}
use Rattle.rules.specs.Sheet.{Item, kill}
use Rattle.rules.specs.Places.{At, Move, over, after, whole}
use Rattle.layout.specs.declared.head.Head.{Head}
use Rattle.layout.specs.Chain.{item_at, next_at, chain, head_or}
use Rattle.layout.proofs.Links.{length-chain}
use Rattle.arena.specs.declared.Place.{Place}
use Rattle.arena.specs.Places.{list_of, left_of, right_of, placed, moved_by, kept_place, Standing, Carried, Going, forward_of, in_turn, staying}
use Rattle.arena.specs.Writes.{kill_mem}
use Rattle.arena.proofs.Carried.{then_as, then-stay, going_on, carried-then}
use Rattle.arena.proofs.Standing.{parts, Stands, stand, item-here, none_here}
use Rattle.arena.proofs.Steps.{forward-carried, kill-carried}

module _ {f : Move} {h : Head} {m : List ℕ} {p : Place} {g : Move} {h₁ : Head} {m₁ : List ℕ} {p₁ : Place} (o : Going f h m p g h₁ m₁ p₁) where
  -- a move that agrees with what is left on a list agrees with it on what is right of the place, where that is the list
  at_right : (g₂ : Move) (r : List Item) → right_of h₁ m₁ p₁ ≡ r → ((e : Env) (n : ℕ) → g e r n ≡ g₂ e r n)
      → moved_by g h₁ m₁ p₁ ≡ moved_by g₂ h₁ m₁ p₁
  at_right g₂ r e s =
      let E = after none (left_of h₁ m₁ p₁) in
      ap (λ (l : List Item). g E l h₁.items) e ∙ s E h₁.items ∙ ap (λ (l : List Item). g₂ E l h₁.items) (sym e)

  -- ---- another way to say what is left
  pub going-same : (g₂ : Move) → moved_by g h₁ m₁ p₁ ≡ moved_by g₂ h₁ m₁ p₁ → Going f h m p g₂ h₁ m₁ p₁
  going-same g₂ s = record { stands = o.stands; rest = sym (then_as none (placed h₁ m₁ p₁) g g₂ s) ∙ o.rest; units = o.units }

  -- at the list's end
  pub going_end : p₁.todo ≤ 0 → (g₂ : Move) → ((e : Env) (n : ℕ) → g e [] n ≡ g₂ e [] n) → Going f h m p g₂ h₁ m₁ p₁
  going_end z g₂ s = going-same g₂ (at_right g₂ [] (none_here o.stands z) s)

  module _ (more : 0 < p₁.todo) where
    at_item : (g₂ : Move) → ((e : Env) (l : List Item) (n : ℕ) → g e (item_at m₁ p₁.right ∷ l) n ≡ g₂ e (item_at m₁ p₁.right ∷ l) n)
        → moved_by g h₁ m₁ p₁ ≡ moved_by g₂ h₁ m₁ p₁
    at_item g₂ s =
        let R = chain (p₁.todo - 1) m₁ (next_at m₁ p₁.right) in
        at_right g₂ (item_at m₁ p₁.right ∷ R) (item-here o.stands more) (λ e n. s e R n)

    -- where the item right of the place decides
    pub going-here : (g₂ : Move) → ((e : Env) (l : List Item) (n : ℕ) → g e (item_at m₁ p₁.right ∷ l) n ≡ g₂ e (item_at m₁ p₁.right ∷ l) n) → Going f h m p g₂ h₁ m₁ p₁
    going-here g₂ s = going-same g₂ (at_item g₂ s)

    -- ---- a move is carried out there
    pub going-by : {k : Move} {h₂ : Head} {m₂ : List ℕ} {p₂ : Place} → Carried k h₁ m₁ p₁ h₂ m₂ p₂ → (g₂ : Move)
        → ((e : Env) (l : List Item) (n : ℕ) → g e (item_at m₁ p₁.right ∷ l) n ≡ in_turn k g₂ e (item_at m₁ p₁.right ∷ l) n) → Going f h m p g₂ h₂ m₂ p₂
    going-by {k} c g₂ s = going_on g₂ o c (at_item (in_turn k g₂) s)

    -- the item is passed
    pub going-ahead : (q : Place) → q ≡ forward_of m₁ p₁ → (g₂ : Move)
        → ((e : Env) (l : List Item) (n : ℕ) → g e (item_at m₁ p₁.right ∷ l) n ≡ over (item_at m₁ p₁.right) (g₂ (after e (item_at m₁ p₁.right ∷ [])) l n))
        → Going f h m p g₂ h₁ m₁ q
    going-ahead q eq g₂ s = going-by (forward-carried o.stands more q eq) g₂ s

    -- the item is deleted and passed
    pub going-kill : (k : List ℕ) → k ≡ kill_mem m₁ p₁.right → (q : Place) → q ≡ forward_of k p₁ → (g₂ : Move)
        → ((e : Env) (l : List Item) (n : ℕ) → g e (item_at m₁ p₁.right ∷ l) n ≡ over (kill (item_at m₁ p₁.right)) (g₂ e l n))
        → Going f h m p g₂ h₁ k q
    going-kill k ek q eq g₂ s =
        let c = kill-carried o.stands more k ek in
        going-by (carried-then c (forward-carried c.stands more q eq)) g₂ s

-- nothing is left to do
pub going-stopped : {f : Move} {h : Head} {m : List ℕ} {p : Place} {h₁ : Head} {m₁ : List ℕ} {p₁ : Place} → Going f h m p staying h₁ m₁ p₁ → Carried f h m p h₁ m₁ p₁
going-stopped {h₁ = h₁} {m₁} {p₁} o = record { stands = o.stands; moved = sym (then-stay none (placed h₁ m₁ p₁)) ∙ o.rest; units = o.units }

-- ---- the place where a move began, once it is carried out
module _ {f : Move} {h : Head} {m : List ℕ} {p : Place} {h₁ : Head} {m₁ : List ℕ} {p₁ : Place} (s : Standing h m p) (c : Carried f h m p h₁ m₁ p₁) where
  list-is : list_of h₁ m₁ ≡ left_of h m p ++ whole (moved_by f h m p)
  list-is =
      let X = moved_by f h m p in
      parts h₁ m₁ p₁ ∙ ap₂ ◌++◌ (ap (λ (a : At). a.left) c.moved) (ap (λ (a : At). a.right) c.moved) ∙ append_assoc (left_of h m p) X.left X.right

  count-is : h₁.items ≡ (h.items - p.todo) + length (whole (moved_by f h m p))
  count-is =
      let l : length (left_of h m p) ≡ h.items - p.todo = length-take-le (h.items - p.todo) (list_of h m) (omega (arith, length-chain h.items m h.first)) in
      sym (length-chain h₁.items m₁ h₁.first) ∙ ap length list-is ∙ length-append (left_of h m p) (whole (moved_by f h m p)) ∙ ap (λ (n : ℕ). n + length (whole (moved_by f h m p))) l

  pub kept-asks : (p.todo ≤ h.items) × (h.items - p.todo ≤ h₁.items)
  kept-asks = (s.todo, omega (arith, count-is))

  pub kept-stands : p.right ≡ head_or (whole (moved_by f h m p)) → (q : Place) → q ≡ kept_place p h h₁ → Stands h₁ m₁ q (left_of h m p) (whole (moved_by f h m p))
  kept-stands r q eq =
      let t : h₁.items - (h.items - p.todo) ≡ length (whole (moved_by f h m p)) = omega (arith, count-is) in
      rw eq (stand h₁ m₁ (kept_place p h h₁) (left_of h m p) (whole (moved_by f h m p)) c.stands.arena list-is t s.left r s.force)

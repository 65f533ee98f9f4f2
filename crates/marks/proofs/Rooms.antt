-- How many items a move that was carried out made. Assumes nothing.
use Prim.Native.Nat.{ℕ, ◌+◌, ◌≤◌}
use native.Mathlib.Omega.{arith}
use mathlib.Core.Path.{◌≡◌, ap}
use mathlib.Core.List.{List}
use Rattle.sets.specs.Sets.{Env, none}
use Rattle.rules.specs.Sheet.{Item}
use Rattle.rules.specs.Places.{At, Move, after}
use Rattle.layout.specs.declared.head.Head.{Head}
use Rattle.arena.specs.declared.Place.{Place}
use Rattle.arena.specs.Places.{left_of, right_of, Carried}

module _ {f : Move} {h : Head} {m : List ℕ} {p : Place} {h₁ : Head} {m₁ : List ℕ} {p₁ : Place} (c : Carried f h m p h₁ m₁ p₁) where
  pub carried-next : h₁.items ≡ (f (after none (left_of h m p)) (right_of h m p) h.items).next
  carried-next = ap (λ (a : At). a.next) c.moved

  -- a bound on the numbers that the rule takes is one on the items
  pub carried-room : (k : ℕ) → ((e : Env) (l : List Item) (n : ℕ) → (f e l n).next ≤ n + k) → h₁.items ≤ h.items + k
  carried-room k b = omega (arith, carried-next, b (after none (left_of h m p)) (right_of h m p) h.items)

-- Moves carried out one after another. A walk of code cites these laws: what is left to do, from where it stands, gives what there was to do at first. Assumes nothing.
use Prim.Native.Nat.{ℕ}
use mathlib.Core.Path.{◌≡◌, refl, sym, ap, ◌∙◌, fun_ext}
use mathlib.Core.List.{List, ◌++◌, append_assoc, append-nil}
use Rattle.sets.specs.Sets.{Env, none}
use Rattle.rules.specs.Sheet.{Item}
use Rattle.rules.specs.Reading.{live}
use Rattle.rules.specs.Places.{At, Move, after, and_then}
use Rattle.laws.proofs.Places.{force-append}
use Rattle.layout.specs.declared.head.Head.{Head}
use Rattle.arena.specs.declared.Place.{Place}
use Rattle.arena.specs.Places.{left_of, right_of, placed, moved_by, Standing, Carried, Going, in_turn, staying}

-- ---- moves

-- what is in force right of two lists
pub after-append : (e : Env) (a b : List Item) → after e (a ++ b) ≡ after (after e a) b
after-append e a b = fun_ext (λ k. force-append live k (e k) a b)

pub then_assoc : (e : Env) (p : At) (f g : Move) → and_then e (and_then e p f) g ≡ and_then e p (in_turn f g)
then_assoc e p f g =
    let q = f (after e p.left) p.right p.next in
    let r : g (after e (p.left ++ q.left)) q.right q.next ≡ g (after (after e p.left) q.left) q.right q.next = ap (λ (x : Env). g x q.right q.next) (after-append e p.left q.left) in
    let s = g (after (after e p.left) q.left) q.right q.next in
    let with : At → At = λ a. record { left = (p.left ++ q.left) ++ a.left; right = a.right; next = a.next } in
    ap with r ∙ ap (λ (l : List Item). record { left = l; right = s.right; next = s.next }) (append_assoc p.left q.left s.left)

pub then-stay : (e : Env) (p : At) → and_then e p staying ≡ p
then-stay e p = ap (λ (l : List Item). record { left = l; right = p.right; next = p.next }) (append-nil p.left)

-- a move that does the same here
pub then_as : (e : Env) (p : At) (f g : Move) → f (after e p.left) p.right p.next ≡ g (after e p.left) p.right p.next → and_then e p f ≡ and_then e p g
then_as e p f g s = ap (λ (a : At). record { left = p.left ++ a.left; right = a.right; next = a.next }) s

-- ---- carried out
pub carried-stay : {h : Head} {m : List ℕ} {p : Place} → Standing h m p → Carried staying h m p h m p
carried-stay {h} {m} {p} s = record { stands = s; moved = sym (then-stay none (placed h m p)); units = refl }

module _ {h : Head} {m : List ℕ} {p : Place} {h₁ : Head} {m₁ : List ℕ} {p₁ : Place} where
  pub carried-then : {f g : Move} {h₂ : Head} {m₂ : List ℕ} {p₂ : Place} → Carried f h m p h₁ m₁ p₁ → Carried g h₁ m₁ p₁ h₂ m₂ p₂ → Carried (in_turn f g) h m p h₂ m₂ p₂
  carried-then {f} {g} c d =
      record {
        stands = d.stands;
        moved = d.moved ∙ ap (λ (a : At). and_then none a g) c.moved ∙ then_assoc none (placed h m p) f g;
        units = d.units ∙ c.units;
      }

  -- by a move that does the same from there
  pub carried-as : {f : Move} (g : Move) → Carried f h m p h₁ m₁ p₁ → moved_by f h m p ≡ moved_by g h m p
      → Carried g h m p h₁ m₁ p₁
  carried-as {f} g c s = record { stands = c.stands; moved = c.moved ∙ then_as none (placed h m p) f g s; units = c.units }

  -- what stands right of the place reached
  pub carried-right : {f : Move} → Carried f h m p h₁ m₁ p₁ → (r : List Item) → right_of h m p ≡ r → right_of h₁ m₁ p₁ ≡ (f (after none (left_of h m p)) r h.items).right
  carried-right {f} c r e = ap (λ (a : At). a.right) c.moved ∙ ap (λ (x : List Item). (f (after none (left_of h m p)) x h.items).right) e

  -- ---- on the way
  pub going_on : {f g k : Move} (g₂ : Move) {h₂ : Head} {m₂ : List ℕ} {p₂ : Place} → Going f h m p g h₁ m₁ p₁ → Carried k h₁ m₁ p₁ h₂ m₂ p₂
      → moved_by g h₁ m₁ p₁ ≡ moved_by (in_turn k g₂) h₁ m₁ p₁
      → Going f h m p g₂ h₂ m₂ p₂
  going_on {f} {g} {k} g₂ o c s =
      let a = placed h₁ m₁ p₁ in
      record {
        stands = c.stands;
        rest = ap (λ (x : At). and_then none x g₂) c.moved ∙ then_assoc none a k g₂ ∙ sym (then_as none a g (in_turn k g₂) s) ∙ o.rest;
        units = c.units ∙ o.units;
      }

  pub going_done : {f g : Move} {h₂ : Head} {m₂ : List ℕ} {p₂ : Place} → Going f h m p g h₁ m₁ p₁ → Carried g h₁ m₁ p₁ h₂ m₂ p₂ → Carried f h m p h₂ m₂ p₂
  going_done o c = record { stands = c.stands; moved = c.moved ∙ o.rest; units = c.units ∙ o.units }

pub going_start : (f : Move) {h : Head} {m : List ℕ} {p : Place} → Standing h m p → Going f h m p f h m p
going_start f s = record { stands = s; rest = refl; units = refl }

-- A delta from the start of a loaded sheet. Assumes nothing.
use Prim.Native.Nat.{ℕ}
use mathlib.Core.Path.{◌≡◌, ap, subst, subst⁻¹, ◌∙◌}
use mathlib.Core.List.{List}
use Rattle.rules.specs.Sheet.{Item}
use Rattle.rules.specs.Reading.{Op}
use Rattle.rules.specs.Places.{At, stay}
use Rattle.rules.specs.Delta.{Given, carry_out, delta}
use Rattle.layout.specs.declared.head.Head.{Head}
use Rattle.arena.specs.declared.Place.{Place}
use Rattle.arena.specs.Places.{Arena, Standing, list_of, placed, start_of}
use Rattle.arena.proofs.Steps.{start-stands}
use Rattle.changes.specs.Frame.{Tried}

module _ {h : Head} {m : List ℕ} (a : Arena h m) {p : Place} (e : p ≡ start_of h) where
  pub stands-first : Standing h m p
  stands-first = subst⁻¹ (Standing h m) e (start-stands a).stands

  pub tried-all : (ops : List (Op Given)) {l : List Item} → list_of h m ≡ l → {h₁ : Head} {m₁ : List ℕ} → Tried (carry_out ops (placed h m p)) h₁ m₁ → Tried (delta ops l h.items) h₁ m₁
  tried-all ops {l} el {h₁} {m₁} t =
      let at : placed h m p ≡ stay l h.items = ap (placed h m) e ∙ (start-stands a).at ∙ ap (λ (x : List Item). stay x h.items) el in
      subst (λ (x : At). Tried (carry_out ops x) h₁ m₁) at t

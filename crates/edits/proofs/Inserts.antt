-- The moves of an insertion, one after another. Assumes nothing.
use Prim.Native.Nat.{ℕ}
use mathlib.Core.Path.{◌≡◌, ap, fun_ext, ◌∙◌}
use mathlib.Core.List.{List}
use Rattle.attrs.specs.declared.Attrs.{Attrs}
use Rattle.sets.specs.Sets.{Set, empty, none, completed}
use Rattle.attrs.specs.Packed.{says, env_of, packed, onto}
use Rattle.attrs.proofs.Changes.{says-empty}
use Rattle.rules.specs.Sheet.{What}
use Rattle.rules.specs.Places.{after, settle}
use Rattle.rules.specs.Edits.{put_new, plain_text, settled, closing, put_close, insert_with}
use Rattle.layout.specs.declared.head.Head.{Head}
use Rattle.arena.specs.declared.Place.{Place}
use Rattle.arena.specs.Places.{left_of, right_of, Standing, Carried}
use Rattle.arena.proofs.Carried.{carried-then, carried-as}
use Rattle.marks.specs.Moves.{settling}
use Rattle.marks.specs.Opens.{Opens}
use Rattle.marks.proofs.Opens.{completes, settled-carried}

module _ {h : Head} {m : List ℕ} {p q : Place} {h₁ : Head} {m₁ : List ℕ} {p₁ : Place} where
  pub insert-carried : Standing h m p → (a b : Attrs) → b ≡ onto a (completed (says a) (env_of p.force)) → Carried (settling (says b)) h m p h m q
      → {r : Attrs} → Opens (says b) h m q h₁ m₁ p₁ r → (w : What) {h₂ : Head} {m₂ : List ℕ} {p₂ : Place} → Carried (put_new w) h₁ m₁ p₁ h₂ m₂ p₂
      → {h₃ : Head} {m₃ : List ℕ} {p₃ : Place} → Carried (closing (says r)) h₂ m₂ p₂ h₃ m₃ p₃ → Carried (insert_with w (says a)) h m p h₃ m₃ p₃
  insert-carried s a b eb c o w d e =
      carried-as (insert_with w (says a)) (settled-carried o (put_close w) c (carried-then d e))
      (ap (λ (x : Set). settled x (put_close w) (after none (left_of h m p)) (right_of h m p) h.items) (completes s a b eb))

  pub plain_carried : (a : Attrs) → a ≡ packed empty → Carried (settling (says a)) h m p h m q → (w : What) → Carried (put_new w) h m q h₁ m₁ p₁
      → Carried (plain_text w) h m p h₁ m₁ p₁
  plain_carried a ea c w d =
      carried-then (carried-as (settling empty) c (ap (λ (x : Set). settle x (right_of h m p) h.items) (ap says ea ∙ fun_ext says-empty))) d

-- When a removal tidies. Assumes nothing.
use Prim.Native.Nat.{ℕ}
use mathlib.Core.Path.{◌≡◌, sym, ap, ◌∙◌}
use mathlib.Core.Bool.{true, false}
use mathlib.Core.List.{List}
use Rattle.attrs.specs.declared.Attrs.{Attrs}
use Rattle.sets.specs.Sets.{none, keys, bare, is_none, as_set}
use Rattle.attrs.specs.Packed.{says}
use Rattle.attrs.proofs.Tests.{bare-packed, bare-force}
use Rattle.rules.specs.Places.{after}
use Rattle.rules.specs.Edits.{remove_here}
use Rattle.layout.specs.declared.head.Head.{Head}
use Rattle.arena.specs.declared.Place.{Place}
use Rattle.arena.specs.Places.{left_of, in_force, Standing, Carried}
use Rattle.arena.proofs.Carried.{carried-as}
use Rattle.removal.specs.Tidies.{deleting, delete_tidy}

-- a place's set is without keys exactly where nothing is in force
none_is : {h : Head} {m : List ℕ} {p : Place} → Standing h m p → bare keys (says p.force) ≡ is_none keys (after none (left_of h m p))
unfolding in_force
none_is {h} {m} {p} s =
    let e = after none (left_of h m p) in
    ap (λ (a : Attrs). bare keys (says a)) s.force ∙ bare-packed (as_set e) ∙ bare-force e

module _ {h : Head} {m : List ℕ} {p : Place} (s : Standing h m p) (n : ℕ) {h₁ : Head} {m₁ : List ℕ} {q : Place} where
  pub removes-plain : bare keys (says p.force) ≡ true → Carried (deleting n) h m p h₁ m₁ q → Carried (remove_here n) h m p h₁ m₁ q
  removes-plain b c = carried-as (remove_here n) c (rw (sym (none_is s) ∙ b))

  pub removes-tidied : bare keys (says p.force) ≡ false → Carried (delete_tidy n) h m p h₁ m₁ q → Carried (remove_here n) h m p h₁ m₁ q
  removes-tidied b c = carried-as (remove_here n) c (rw (sym (none_is s) ∙ b))

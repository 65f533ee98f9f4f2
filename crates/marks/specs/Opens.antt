-- What opening leaves: the marks put, and what is remembered.
use Rattle.std.specs.Prelude.{ℕ, ◌≡◌, List}
use Rattle.attrs.specs.declared.Attrs.{Attrs}
use Rattle.sets.specs.Sets.{Set, none, former}
use Rattle.attrs.specs.Packed.{says}
use Rattle.rules.specs.Places.{after}
use Rattle.layout.specs.declared.head.Head.{Head}
use Rattle.arena.specs.declared.Place.{Place}
use Rattle.arena.specs.Places.{left_of, Carried}
use Rattle.marks.specs.Moves.{opener}

-- Rule Open from a place: its marks stand, and r says the former values of their keys.
pub record Opens (a : Set) (h : Head) (m : List ℕ) (p : Place) (h₁ : Head) (m₁ : List ℕ) (p₁ : Place) (r : Attrs) : Type 0 where
  pub put : Carried (opener a) h m p h₁ m₁ p₁
  pub remembers : says r ≡ former a (after none (left_of h m p))

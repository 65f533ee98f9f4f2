-- One step of the walk to an index. Assumes nothing.
use Prim.Native.Nat.{ℕ, ◌-◌, ◌<◌, ◌≤◌}
use mathlib.Core.Path.{◌≡◌}
use mathlib.Core.Bool.{false}
use mathlib.Core.List.{List, [], ◌∷◌}
use lib.ListN.{length}
use borrow.Author.Tests.{lt-ltb, le-ltb}
use Rattle.rules.specs.Sheet.{What, text, embed, mark, Item}
use Rattle.rules.specs.Places.{uses}
use Rattle.rules.specs.Sound.{AllFit, Fits}
use Rattle.cuts.specs.Cuts.{cuts_piece, cut_at, Lies}

lies : (n : ℕ) (w : What) → Fits n w → Lies n w
lies n (text s l) f = f.1
lies n (embed e) f = tt
lies n (mark k v) f = tt

-- an item in front of the others
module _ (us : List ℕ) (n : ℕ) {l : List Item} {i : Item} {others : List Item} (e : l ≡ i ∷ others) where
  pub falls-in : n < uses i → cut_at us n l ≡ cuts_piece us i.what n
  unfolding cut_at
  falls-in h = rw (e, lt-ltb n _ h)

  pub falls-past : uses i ≤ n → cut_at us n l ≡ cut_at us (n - uses i) others
  unfolding cut_at
  falls-past h = rw (e, le-ltb n _ h)

  pub lies-here : AllFit (length us) l → Lies (length us) i.what
  lies-here f = lies (length us) i.what (rw e at f).1

  pub fits_on : AllFit (length us) l → AllFit (length us) others
  fits_on f = (rw e at f).2

pub falls-end : (us : List ℕ) (n : ℕ) {l : List Item} → l ≡ [] → cut_at us n l ≡ false
unfolding cut_at
falls-end us n e = rw e

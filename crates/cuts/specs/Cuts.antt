-- Where an index falls in a list of items.
use Rattle.std.specs.Prelude.{ℕ, ◌+◌, ◌-◌, ◌≤◌, Bool, true, false, cond, List, [], ◌∷◌, ◌≡◌, length, take, drop, ltb}
use Rattle.units.specs.Surrogates.{splits_pair}
use Rattle.rules.specs.Sheet.{What, text, embed, mark, Item}
use Rattle.rules.specs.Places.{uses}
use Rattle.rules.specs.Sound.{AllFit}
use Rattle.rules.specs.Calls.{AllPaired}
use Rattle.layout.specs.Chain.{walks}
use Rattle.layout.specs.Memory.{list_of}
use Rattle.layout.specs.declared.head.Head.{Head}

-- Does the count n cut a pair of this piece?
abbrev pub cuts_piece : List ℕ → What → ℕ → Bool
cuts_piece us (text s w) n = splits_pair (take w (drop s us)) n
cuts_piece us (embed e) n = false
cuts_piece us (mark k v) n = false

-- Does the index n cut a pair of the piece that it falls into?
unfoldable pub cut_at : List ℕ → ℕ → List Item → Bool
cut_at us n [] = false
cut_at us n (i ∷ l) = cond (ltb n (uses i)) (cuts_piece us i.what n) (cut_at us (n - uses i) l)

-- A text that lies within n units.
abbrev pub Lies : ℕ → What → Type 0
Lies n (text s w) = s + w ≤ n
Lies n (embed e) = Unit {0}
Lies n (mark k v) = Unit {0}

-- What a walk over a sheet's items leans on: links that end, and pieces that are whole and lie in the used units.
pub record Readable (h : Head) (m us : List ℕ) : Type 0 where
  pub few : h.items ≤ length m
  pub low : h.items ≤ 2048
  pub walk : walks h.items h.items m h.first ≡ true
  pub fit : AllFit (length us) (list_of h m)
  pub pairs : AllPaired us (list_of h m)

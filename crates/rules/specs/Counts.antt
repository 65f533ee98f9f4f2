-- How many items a move makes, and which numbers they take.
use Rattle.std.specs.Prelude.{ℕ, ◌+◌, ◌*◌, ◌≤◌, ◌<◌, ◌≡◌, List, [], ◌∷◌, length}
use Rattle.rules.specs.Sheet.{Item}
use Rattle.rules.specs.Places.{At, whole}
use Rattle.rules.specs.Sound.{occurs, below}
use Rattle.rules.specs.Calls.{Call, insert_text, insert_text_with, insert_embed, insert_embed_with, format_range, remove_range, apply_delta, begin_now}

-- every item has a number below m
abbrev pub AllBelow : ℕ → List Item → Type 0
AllBelow m [] = Unit {0}
AllBelow m (i ∷ l) = (i.num < m) × AllBelow m l

-- From a list and its next number to a place: at most k new items, as many as numbers are taken, and all numbers below the next one.
pub record Makes (l : List Item) (m : ℕ) (p : At) (k : ℕ) : Type 0 where
  pub most : p.next ≤ m + k
  pub least : m ≤ p.next
  pub count : length (whole p) + m ≡ length l + p.next
  pub under : AllBelow m l → AllBelow p.next (whole p)
  -- the old numbers, and those from m up to the next one, each once more
  pub once : (j : ℕ) → occurs j (whole p) + below j m ≡ occurs j l + below j p.next

-- the most that a call makes: 34 by index, 33 for each operation of a delta
abbrev pub most_new : Call → ℕ
most_new (insert_text i us) = 2
most_new (insert_text_with i us a) = 34
most_new (insert_embed i e) = 2
most_new (insert_embed_with i e a) = 34
most_new (format_range i n a) = 34
most_new (remove_range i n) = 2
most_new (apply_delta ops) = 33 * length ops
most_new begin_now = 0

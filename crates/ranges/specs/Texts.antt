-- The visible units of a range.
use Rattle.std.specs.Prelude.{ℕ, zero, suc, ◌+◌, ◌-◌, ◌≤◌, ◌≡◌, true, cond, List, [], ◌∷◌, ◌++◌, leb, length, get_or, take, drop}
use Rattle.rules.specs.Sheet.{What, text, embed, mark, width}
use Rattle.rules.specs.Sound.{AllFit}
use Rattle.rules.specs.Calls.{visible_units, bad_range}
use Rattle.layout.specs.declared.head.Head.{Head}
use Rattle.layout.specs.Word.{what_of}
use Rattle.layout.specs.Chain.{chain, walks}
use Rattle.layout.specs.Memory.{list_of, sound_of}
use Rattle.ranges.specs.declared.Seen.{Seen}
use Rattle.runs.specs.Answers.{Count, written, answer}

-- What the sheet shows, an embed as a unit 0 ..
unfoldable pub visible_in : Head → List ℕ → List ℕ → List ℕ
visible_in h m u = visible_units u (list_of h m)

-- .. from i on, n units at most.
abbrev pub text_in : Head → List ℕ → List ℕ → ℕ → ℕ → List ℕ
text_in h m u i n = take n (drop i (visible_in h m u))

-- 9 where the sheet is not sound, 2 where an end of the range falls inside a pair, 8 where the text does not fit `room`; else its length.
unfoldable pub text_answer : Head → List ℕ → List ℕ → ℕ → ℕ → ℕ → Count
text_answer h m u i n room =
    let long = length (text_in h m u i n) in
    let fits = cond (leb long room) (answer 0 long) (answer 8 0) in
    cond (sound_of h m u) (cond (bad_range (visible_in h m u) i n) (answer 2 0) fits) (answer 9 0)

-- The text is written from the start; what lies behind it stays, and all stays where the call is refused.
pub record Copied (h : Head) (m u : List ℕ) (i n : ℕ) (before after : List ℕ) (r : Count) : Type 0 where
  pub answers : r ≡ text_answer h m u i n (length before)
  pub leaves : after ≡ written (text_in h m u i n) r.count before

-- ---- unit by unit

-- Unit k of an item; an embed's is 0.
unfoldable pub unit_in : List ℕ → What → ℕ → ℕ
unit_in u (text s n) k = get_or u (s + k) 0
unit_in u (embed x) k = 0
unit_in u (mark j v) k = 0

-- What is left to show from an item on, `todo` items with it, of which so many units are passed over.
unfoldable pub showing : List ℕ → List ℕ → ℕ → ℕ → ℕ → List ℕ
showing m u at todo off = drop off (visible_units u (chain todo m at))

-- n units of an item from unit k on.
unfoldable pub units_from : List ℕ → What → ℕ → ℕ → List ℕ
units_from u w k zero = []
units_from u w k (suc n) = unit_in u w k ∷ units_from u w (k + 1) n

-- What is left of the first `wide` units of an item, and then from the next item on, `todo` items with it; so many units in all are
-- passed over.
abbrev pub left_from : List ℕ → List ℕ → What → ℕ → ℕ → ℕ → ℕ → List ℕ
left_from m u w wide at todo off = units_from u w off (wide - off) ++ showing m u at todo (off - wide)

abbrev pub left : Seen → List ℕ
left s = left_from s.items.now s.units.now (what_of s.content) s.width s.at s.todo s.off

-- A text lies in so many units.
abbrev pub LiesIn : ℕ → What → Type 0
LiesIn long (text s n) = s + n ≤ long
LiesIn long (embed x) = Unit {0}
LiesIn long (mark k v) = Unit {0}

-- An item's first `wide` units can be read.
abbrev pub Shows : ℕ → What → ℕ → Type 0
Shows long w wide = LiesIn long w × (wide ≤ width w)

-- The links go on to the end, and the texts lie in the units.
pub record Reads (m u : List ℕ) (at todo : ℕ) : Type 0 where
  pub used : ℕ
  pub walk : walks (length m) todo m at ≡ true
  pub fit : AllFit used (chain todo m at)
  pub room : used ≤ length u

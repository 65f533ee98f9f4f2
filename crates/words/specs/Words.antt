-- Bytes of one class that stand together, and the words of a line.
use Rattle.std.specs.Prelude.{◌≡◌, Bool, cond, not, ◌||◌, List, [], ◌∷◌, ℕ, suc, ◌+◌, ◌≤◌, eqb, length, drop, position, Option}
use Rattle.words.specs.declared.words.Class.{Class}
use Rattle.words.specs.declared.words.Class.TheVariants.{Space, Word, Key, Line}
use Rattle.words.specs.declared.words.Word.{Word as Found}

-- A space, a tab or a carriage return parts words.
abbrev pub parts : ℕ → Bool
parts b = eqb b 32 || (eqb b 9 || eqb b 13)

-- Spaces; the bytes of a word; what stands before a `=`; what stands before a newline.
abbrev pub passes : Class → ℕ → Bool
passes Space b = parts b
passes Word b = not (parts b)
passes Key b = not (eqb b 61)
passes Line b = not (eqb b 10)

-- How many bytes pass before the first that does not.
unfoldable pub leading : Class → List ℕ → ℕ
leading c [] = 0
leading c (b ∷ bs) = cond (passes c b) (suc (leading c bs)) 0

-- The index of the first byte that does not pass.
unfoldable pub other_of : Class → List ℕ → Option ℕ
other_of c s = position (λ (b : ℕ). not (passes c b)) s

-- The end of the bytes of a class that begin at `from`, with the bounds that callers ask for.
pub record Spans (c : Class) (s : List ℕ) (from r : ℕ) : Type 0 where
  pub is : r ≡ from + leading c (drop from s)
  pub low : from ≤ r
  pub high : r ≤ length s

-- The next word: behind the spaces, up to the next space.
abbrev pub word_at : List ℕ → ℕ → Found
word_at s from =
    let start = from + leading Space (drop from s) in
    record { start = start; end = start + leading Word (drop start s) }

pub record WordIs (s : List ℕ) (from : ℕ) (r : Found) : Type 0 where
  pub is : r ≡ word_at s from
  pub low : from ≤ r.start
  pub order : r.start ≤ r.end
  pub high : r.end ≤ length s

-- Lines of input that is read in parts.
use Rattle.std.specs.Prelude.{◌≡◌, cond, List, ◌++◌, ℕ, ◌-◌, ltb, length, take, drop, Option, Some, None}
use Rattle.words.specs.Words.{leading}
use Rattle.words.specs.declared.words.Class.TheVariants.{Line as ToNewline}

-- The bytes that are read and not yet handed out.
abbrev pub waiting : List ℕ → ℕ → ℕ → List ℕ
waiting buf start end = take (end - start) (drop start buf)

-- The first line ends at the first newline.
unfoldable pub line_of : List ℕ → Option ℕ
line_of w = cond (ltb (leading ToNewline w) (length w)) (Some (leading ToNewline w)) None

-- What waits lies at the front, what lies behind it is as it was.
pub record Moved (before after : List ℕ) (start end r : ℕ) : Type 0 where
  pub is : after ≡ waiting before start end ++ drop (end - start) before
  pub kept : take r after ≡ waiting before start end
  pub count : r ≡ end - start
  pub long : length after ≡ length before

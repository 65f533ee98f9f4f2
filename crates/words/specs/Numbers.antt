-- What a word says: a number by its digits, a unit of text by four, an attribute by two numbers about a `=`.
use Rattle.std.specs.Prelude.{Bool, true, cond, ◌&&◌, List, [], ◌∷◌, ℕ, ◌+◌, ◌-◌, ◌*◌, eqb, ltb, leb, length, take, drop, Option, Some, None}
use Rattle.words.specs.Words.{leading}
use Rattle.words.specs.declared.words.Class.TheVariants.{Key}
use Rattle.words.specs.declared.numbers.Piece.{Piece}
use Rattle.words.specs.declared.numbers.Piece.TheVariants.{Unit, Pair}

abbrev pub within : ℕ → ℕ → ℕ → Bool
within low high b = leb low b && leb b high

-- `0` to `9`, and `A` to `F` or `a` to `f` for ten to fifteen; 16 is no digit.
abbrev pub digit_of : ℕ → ℕ
digit_of b = cond (within 48 57 b) (b - 48) (cond (within 65 70 b) (b - 55) (cond (within 97 102 b) (b - 87) 16))

unfoldable pub all_digits : ℕ → List ℕ → Bool
all_digits base [] = true
all_digits base (b ∷ bs) = ltb (digit_of b) base && all_digits base bs

-- The value of digits behind others of value `a`, the first the highest.
unfoldable pub value_from : ℕ → ℕ → List ℕ → ℕ
value_from base a [] = a
value_from base a (b ∷ bs) = value_from base (a * base + digit_of b) bs

unfoldable pub number_from : ℕ → ℕ → List ℕ → Option ℕ
number_from base a w = cond (all_digits base w && ltb (value_from base a w) 4294967296) (Some (value_from base a w)) None

-- A word of one digit or more, whose value is below 2 to the 32nd.
abbrev pub number_of : ℕ → List ℕ → Option ℕ
number_of base w = cond (eqb (length w) 0) None (number_from base 0 w)

abbrev pub as_unit : Option ℕ → Option Piece
as_unit (Some u) = Some (Unit u)
as_unit None = None

abbrev pub as_pair : Option ℕ → Option ℕ → Option Piece
as_pair (Some k) (Some v) = Some (Pair k v)
as_pair (Some k) None = None
as_pair None n = None

-- A unit of text: four hexadecimal digits.
abbrev pub unit_of : List ℕ → Option Piece
unit_of w = cond (eqb (length w) 4) (as_unit (number_of 16 w)) None

-- An attribute: decimal numbers left and right of the `=` at e.
abbrev pub pair_at : List ℕ → ℕ → Option Piece
pair_at w e = as_pair (number_of 10 (take e w)) (number_of 10 (drop (e + 1) w))

-- A word with a `=` is an attribute by its first one, any other a unit.
unfoldable pub piece_of : List ℕ → Option Piece
piece_of w = cond (ltb (leading Key w) (length w)) (pair_at w (leading Key w)) (unit_of w)

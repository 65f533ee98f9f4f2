-- Operations in numbers, eight to each.
use Rattle.std.specs.Prelude.{ℕ, ◌+◌, ◌*◌, ◌/◌, ◌%◌, cond, List, [], ◌∷◌, ◌++◌, eqb, ltb, length, get_or, Option, None, Some}
use Rattle.attrs.specs.declared.Attrs.{Attrs}
use Rattle.ops.specs.declared.delta.Inserted.TheVariants.{Text, Embed}
use Rattle.ops.specs.declared.delta.Op.{Op}
use Rattle.ops.specs.declared.delta.Op.TheVariants.{Insert, Delete, Retain}
use Rattle.ops.specs.declared.delta.DeltaOp.{DeltaOp}

-- ---- written

abbrev pub kind_of : Op → ℕ
kind_of (Insert (Text s n)) = 1
kind_of (Insert (Embed e)) = 2
kind_of (Delete n) = 3
kind_of (Retain n) = 4

abbrev pub first_of : Op → ℕ
first_of (Insert (Text s n)) = s
first_of (Insert (Embed e)) = e
first_of (Delete n) = n
first_of (Retain n) = n

abbrev pub second_of : Op → ℕ
second_of (Insert (Text s n)) = n
second_of (Insert (Embed e)) = 0
second_of (Delete n) = 0
second_of (Retain n) = 0

-- Four bytes of a list in one number, the first the lowest.
abbrev pub four : List ℕ → ℕ → ℕ
four v k = get_or v k 0 + 256 * get_or v (k + 1) 0 + 65536 * get_or v (k + 2) 0 + 16777216 * get_or v (k + 3) 0

abbrev pub words_of : DeltaOp → List ℕ
words_of d =
    kind_of d.op ∷ first_of d.op ∷ second_of d.op ∷ d.attrs.mask
    ∷ four d.attrs.values 0 ∷ four d.attrs.values 4 ∷ four d.attrs.values 8 ∷ four d.attrs.values 12 ∷ []

-- The words of operations, one after the other.
abbrev pub all_words : List DeltaOp → List ℕ
all_words [] = []
all_words (d ∷ ds) = words_of d ++ all_words ds

-- ---- read back

abbrev pub bytes_of : ℕ → ℕ → ℕ → ℕ → List ℕ
bytes_of a b c d =
    a % 256 ∷ a / 256 % 256 ∷ a / 65536 % 256 ∷ a / 16777216 % 256
    ∷ b % 256 ∷ b / 256 % 256 ∷ b / 65536 % 256 ∷ b / 16777216 % 256
    ∷ c % 256 ∷ c / 256 % 256 ∷ c / 65536 % 256 ∷ c / 16777216 % 256
    ∷ d % 256 ∷ d / 256 % 256 ∷ d / 65536 % 256 ∷ d / 16777216 % 256 ∷ []

abbrev pub meant_by : ℕ → ℕ → ℕ → Option Op
meant_by k a b =
    cond (eqb k 1) (Some (Insert (Text a b)))
    (cond (eqb k 2) (Some (Insert (Embed a))) (cond (eqb k 3) (Some (Delete a)) (cond (eqb k 4) (Some (Retain a)) None)))

-- An operation with its set, if there is one.
abbrev pub with_set : Attrs → Option Op → Option DeltaOp
with_set a None = None
with_set a (Some o) = Some (record { op = o; attrs = a })

-- What eight numbers say. A key mask has 16 bits.
unfoldable pub op_from : ℕ → ℕ → ℕ → ℕ → ℕ → ℕ → ℕ → ℕ → Option DeltaOp
op_from k a b m p q r s = cond (ltb 65535 m) None (with_set (record { mask = m; values = bytes_of p q r s }) (meant_by k a b))

-- The operation that the eight numbers from `at` on say.
abbrev pub found_from : List ℕ → ℕ → Option DeltaOp
found_from w at =
    op_from (get_or w at 0) (get_or w (at + 1) 0) (get_or w (at + 2) 0) (get_or w (at + 3) 0)
    (get_or w (at + 4) 0) (get_or w (at + 5) 0) (get_or w (at + 6) 0) (get_or w (at + 7) 0)

unfoldable pub found_at : List ℕ → ℕ → Option DeltaOp
found_at w i = cond (ltb (length w) (i * 8 + 8)) None (found_from w (i * 8))

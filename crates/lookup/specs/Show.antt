-- What is read back.
use Rattle.std.specs.Prelude.{ℕ, ◌+◌, Bool, false, cond, List, [], eqb, ltb, leb, Option, Some, None}
use Rattle.std.specs.Int.{w64}
use Rattle.std.proofs.Common.{to_z}
use Rattle.table.specs.declared.TableHead.{TableHead}
use Rattle.lookup.specs.declared.Shown.{Shown}
use Rattle.lookup.specs.declared.Shown.TheVariants.{Bool as IsBool, Int as IsInt, String as IsString}
use Rattle.entries.specs.Entry.{kind_at, content_at}
use Rattle.entries.specs.Number.{number_of}
use Rattle.table.specs.Value.{Value, bool, int, string}
use Rattle.table.specs.Sound.{sound_of}

-- What an entry of a kind stands for.
unfoldable pub value_of : ℕ → List ℕ → Value
value_of k c =
    cond (eqb k 1) (bool (eqb (number_of c) 1))
    (cond (eqb k 2) (int (to_z w64 (number_of c))) (string c))

-- The bytes of a string.
unfoldable pub bytes_of : Value → List ℕ
bytes_of (bool b) = []
bytes_of (int z) = []
bytes_of (string c) = c

-- The case of each value; a string's bytes are shown where they lie.
unfoldable pub case_of : Value → Shown
case_of (bool b) = IsBool b
case_of (int z) = IsInt z
case_of (string c) = IsString

-- A name's number is given out below the count of names, a value's from 1 up to the count of values; an unsound table gives none out.
unfoldable pub given_name : TableHead → List ℕ → ℕ → Bool
given_name h m n = cond (sound_of h m) (ltb n h.names) false

unfoldable pub given_value : TableHead → List ℕ → ℕ → Bool
given_value h m v = cond (sound_of h m) (cond (eqb v 0) false (leb v h.values)) false

-- Value v stands in slot 15 + v.
unfoldable pub value_at : List ℕ → ℕ → Value
value_at m v = value_of (kind_at m (15 + v)) (content_at m (15 + v))

unfoldable pub shown_of : TableHead → List ℕ → ℕ → Option Shown
shown_of h m v = cond (given_value h m v) (Some (case_of (value_at m v))) None

-- The bytes of a name; no byte, where the number is not given out.
unfoldable pub name_of : TableHead → List ℕ → ℕ → List ℕ
name_of h m n = cond (given_name h m n) (content_at m n) []

-- The bytes of a string value; no byte, where the number is not given out or the value is no string.
unfoldable pub string_of : TableHead → List ℕ → ℕ → List ℕ
string_of h m v = cond (given_value h m v) (bytes_of (value_at m v)) []

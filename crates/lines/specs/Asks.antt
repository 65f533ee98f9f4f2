-- What a line asks of the table of names and values.
use Rattle.std.specs.Prelude.{◌≡◌, true, false, cond, List, ℕ, ◌+◌, ◌*◌, ◌≤◌, eqb, ltb, length, take, drop, Option, Some, None}
use Rattle.words.specs.Words.{word_at}
use Rattle.words.specs.Numbers.{number_of}
use Rattle.lines.specs.Fields.{part, read_at}
use Rattle.lines.specs.Calls.{name_of}
use Rattle.words.specs.declared.words.Word.{Word as Found}
use Rattle.lines.specs.declared.fields.Field.{Field}
use Rattle.lines.specs.declared.fields.Field.TheVariants.{Line, Op, Word}
use Rattle.lines.specs.declared.asks.Entry.{Entry}
use Rattle.lines.specs.declared.asks.Entry.TheVariants.{Name, String, Bool, Integer, NameOf, ValueOf}
use Rattle.lines.specs.declared.asks.AskedEntry.{AskedEntry}

abbrev pub halves : Option ℕ → Option ℕ → Option Entry
halves (Some h) (Some l) = Some (Integer (h * 4294967296 + l))
halves (Some h) None = None
halves None n = None

-- Sixteen hexadecimal digits are a two's complement of 64 bits.
abbrev pub integer_of : List ℕ → Option Entry
integer_of w = cond (eqb (length w) 16) (halves (number_of 16 (take 8 w)) (number_of 16 (drop 8 w))) None

-- m and v ask what a number stands for; t asks for false by 0 and for true by 1.
abbrev pub numbered_entry : ℕ → ℕ → Option Entry
numbered_entry c n =
    cond (eqb c 109) (Some (NameOf n)) (cond (eqb c 118) (Some (ValueOf n)) (cond (eqb n 0) (Some (Bool false)) (cond (eqb n 1) (Some (Bool true)) None)))

abbrev pub number_entry : ℕ → Option ℕ → Option Entry
number_entry c (Some n) = numbered_entry c n
number_entry c None = None

-- Behind g an integer, else a decimal number.
abbrev pub word_entry : ℕ → List ℕ → Option Entry
word_entry c w = cond (eqb c 103) (integer_of w) (number_entry c (number_of 10 w))

abbrev pub last_entry : Field → Option Entry → Option Entry
last_entry Line e = e
last_entry Op e = None
last_entry (Word p) e = None

abbrev pub ended_in : List ℕ → Found → ℕ → Option Entry
ended_in s w c = last_entry (read_at s w.end).field (word_entry c (part s w.start w.end))

-- One word, and then the end of the line.
abbrev pub ended_entry : List ℕ → ℕ → ℕ → Option Entry
ended_entry s from c = ended_in s (word_at s from) c

-- k asks for a name, s for a string: all that stands behind.
abbrev pub entry_by : List ℕ → ℕ → ℕ → Option Entry
entry_by s from c = cond (eqb c 107) (Some Name) (cond (eqb c 115) (Some String) (ended_entry s from c))

-- One byte parts a letter from what stands behind it.
abbrev pub behind : ℕ → ℕ → ℕ
behind n end = cond (ltb end n) (end + 1) end

abbrev pub entry_in : List ℕ → Found → AskedEntry
entry_in s w = record { entry = entry_by s w.end (name_of s w); at = behind (length s) w.end }

pub record EntryIs (s : List ℕ) (r : AskedEntry) : Type 0 where
  pub is : r ≡ entry_in s (word_at s 0)
  pub within : r.at ≤ length s

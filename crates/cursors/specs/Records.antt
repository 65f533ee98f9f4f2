-- Run records: a run of the rules by value.
use Rattle.std.specs.Prelude.{ℕ, ◌+◌, Bool, true, false, not, List, [], ◌∷◌, length}
use Rattle.sets.specs.Sets.{Env, as_set, empty, keys, present}
use Rattle.attrs.specs.Packed.{packed}
use Rattle.rules.specs.Sheet.{Item}
use Rattle.rules.specs.Runs.{Chunk, words, object, Run as Stretch, runs, runs_from, is_text, joined}
use Rattle.cursors.specs.declared.run.Run.{Run}

-- How many visible units a run has.
abbrev pub len_of : Chunk → ℕ
len_of (words gs) = length gs
len_of (object x) = 1

-- The number of an embed; a text has none.
abbrev pub number_of : Chunk → ℕ
number_of (words gs) = 0
number_of (object x) = x

-- What stands where there is no run.
abbrev pub blank : Run
blank = record { embed = false; start = 0; len = 0; number = 0; count = 0; attrs = packed empty }

-- A run that starts at s: what it is, its place and length, and what is in force on it without nulls, with the number of keys.
abbrev pub record_of : ℕ → Stretch → Run
record_of s r =
    record {
      embed = not (is_text r.chunk);
      start = s;
      len = len_of r.chunk;
      number = number_of r.chunk;
      count = length (present keys (as_set r.force));
      attrs = packed (as_set r.force);
    }

-- Runs one behind the other, the first at s.
unfoldable pub records_of : ℕ → List Stretch → List Run
records_of s [] = []
records_of s (r ∷ rs) = record_of s r ∷ records_of (s + len_of r.chunk) rs

-- Plain runs, or joined ones.
unfoldable pub runs_by : Bool → List Stretch → List Stretch
runs_by false rs = rs
runs_by true rs = joined rs

-- The records of a list that starts at s, with e in force on its left ..
abbrev pub records_from : Bool → ℕ → Env → List Item → List Run
records_from j s e l = records_of s (runs_by j (runs_from [] e l))

-- .. and of a whole list.
abbrev pub records : Bool → List Item → List Run
records j l = records_of 0 (runs_by j (runs l))

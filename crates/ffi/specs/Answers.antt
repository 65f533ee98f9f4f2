-- Answers whose parts come back through lent numbers.
use Rattle.std.specs.Prelude.{ℕ, ◌≡◌, cond, List, [], ◌∷◌, map, leb, ℤ, pos, length, get_or, take, Option, Some, None}
use Rattle.items.specs.Calls.{Length}
use Rattle.cursors.specs.declared.run.Run.{Run}
use Rattle.runs.specs.Answers.{Count, Said}
use Rattle.ops.specs.declared.delta.Inserted.TheVariants.{Text, Embed}
use Rattle.ops.specs.declared.delta.Op.TheVariants.{Insert}
use Rattle.ops.specs.declared.delta.DeltaOp.{DeltaOp}
use Rattle.encoding.specs.Words.{words_of, all_words}
use Rattle.events.specs.Given.{EventAnswer, at_front}
use Rattle.lookup.specs.declared.Shown.{Shown}
use Rattle.lookup.specs.declared.Shown.TheVariants.{Bool as IsBool, Int as IsInt, String as IsString}

abbrev pub length_in : ℕ → ℕ → Length
length_in r n = record { refusal = r; len = n }

abbrev pub count_in : ℕ → ℕ → Count
count_in r n = record { refusal = r; count = n }

abbrev pub event_in : ℕ → List ℕ → EventAnswer
event_in r w = record { refusal = r; ops = get_or w 0 0; units = get_or w 1 0 }

-- A run is an Inserted of its visible units, or of its embed, with what is in force on it.
abbrev pub run_op : Run → DeltaOp
run_op r = record { op = Insert (cond r.embed (Embed r.number) (Text r.start r.len)); attrs = r.attrs }

-- The eight numbers of a run that was asked for by its number; all 0 where there is none.
unfoldable pub said_words : Said → List ℕ
said_words s = cond s.found (words_of (run_op s.run)) (0 ∷ 0 ∷ 0 ∷ 0 ∷ 0 ∷ 0 ∷ 0 ∷ 0 ∷ [])

-- The numbers of runs, one after the other.
abbrev pub runs_words : List Run → List ℕ
runs_words rs = all_words (map run_op rs)

-- ---- the table

-- The number of each case of a value ..
abbrev pub kind_in : Option Shown → ℕ
kind_in None = 0
kind_in (Some (IsBool b)) = 1
kind_in (Some (IsInt z)) = 2
kind_in (Some IsString) = 3

-- .. and what is beside it.
abbrev pub number_in : Option Shown → ℤ
number_in None = pos 0
number_in (Some (IsBool b)) = cond b (pos 1) (pos 0)
number_in (Some (IsInt z)) = z
number_in (Some IsString) = pos 0

-- Bytes that are shown stand at the front of a lent slice; 8, and nothing written, where it is too short for them.
pub record ShownIn (bytes before after : List ℕ) (r : Count) : Type 0 where
  pub answers : r ≡ cond (leb (length bytes) (length before)) (count_in 0 (length bytes)) (count_in 8 0)
  pub leaves : after ≡ at_front (take r.count bytes) before

-- What an event call gives: its answer, and what it writes at the front of the lent numbers and units.
use Rattle.std.specs.Prelude.{ℕ, ◌*◌, Bool, cond, ◌&&◌, List, [], ◌++◌, leb, length, drop, Result}
use Rattle.std.specs.Result.{result_unwrap_or}
use Rattle.refusal.specs.declared.Refusal.{Refusal}
use Rattle.refusal.specs.Numbers.{refusal_in}
use Rattle.rules.specs.Reading.{Seen}
use Rattle.rules.specs.Event.{event, told_units}
use Rattle.layout.specs.declared.head.Head.{Head}
use Rattle.layout.specs.Memory.{list_of, sound_of}
use Rattle.events.specs.declared.event.Written.{Written}
use Rattle.events.specs.Told.{Ops, encoded, texts}

-- What is answered: the refusal's number, 0 for none, and how many operations and units; none beside a refusal.
pub record EventAnswer : Type 0 where
  pub refusal : ℕ
  pub ops : ℕ
  pub units : ℕ

abbrev pub answered : Result Written Refusal → EventAnswer
answered r = let w = result_unwrap_or r (record { ops = 0; units = 0 }) in record { refusal = refusal_in r; ops = w.ops; units = w.units }

pub record Given : Type 0 where
  pub answer : EventAnswer
  pub words : List ℕ
  pub units : List ℕ

abbrev pub refusal : ℕ → EventAnswer
refusal n = record { refusal = n; ops = 0; units = 0 }

-- Refused: the number, and nothing is written.
abbrev pub refused : ℕ → Given
refused n = record { answer = refusal n; words = []; units = [] }

-- All operations, eight numbers to each, and the units of their texts.
abbrev pub gives : List ℕ → Ops → Given
gives u ops = record { answer = record { refusal = 0; ops = length ops; units = told_units ops }; words = encoded ops; units = texts u ops }

abbrev pub fits_in : ℕ → ℕ → Ops → Bool
fits_in words units ops = leb (length ops * 8) words && leb (told_units ops) units

-- Refusal 9 (BROKEN), exactly when the sheet is not sound; 8 (OUT), exactly when a lent buffer is too short; else the whole event.
unfoldable pub given : Seen → Seen → Head → List ℕ → List ℕ → ℕ → ℕ → Given
given was now h m u words units =
    cond (sound_of h m u)
    (cond (fits_in words units (event was now (list_of h m))) (gives u (event was now (list_of h m))) (refused 8))
    (refused 9)

-- What is written stands at the front; the rest of the buffer is as it was.
abbrev pub at_front : List ℕ → List ℕ → List ℕ
at_front xs w = xs ++ drop (length xs) w

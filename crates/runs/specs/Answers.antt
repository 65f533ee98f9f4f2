-- What the calls answer.
use Rattle.std.specs.Prelude.{ℕ, ◌≡◌, Bool, true, false, cond, List, [], ◌∷◌, ◌++◌, leb, length, take, drop, Option, None, Result, MatchResult}
use Rattle.std.specs.Option.{is_some, unwrap_or}
use Rattle.std.specs.Result.{result_unwrap_or}
use Rattle.refusal.specs.declared.Refusal.{Refusal}
use Rattle.refusal.specs.declared.Refusal.TheVariants.{Broken}
use Rattle.refusal.specs.Numbers.{refusal_in}
use Rattle.layout.specs.declared.head.Head.{Head}
use Rattle.layout.specs.Memory.{list_of, sound_of}
use Rattle.cursors.specs.declared.run.Run.{Run}
use Rattle.cursors.specs.declared.walk.Runs.{Runs}
use Rattle.cursors.specs.Records.{blank, records}
use Rattle.cursors.specs.Cursors.{left, Ready}

-- The first n of a list over the first n places of another; what lies behind them stays.
abbrev pub written : {A : Type 0} → List A → ℕ → List A → List A
written xs n ys = take n xs ++ drop n ys

-- The records of the sheet that lies in the buffers.
abbrev pub records_in : Head → List ℕ → Bool → List Run
records_in h m j = records j (list_of h m)

-- What is answered: the refusal's number, 0 for none, and how many runs, or units, there are or were written; 0 beside a refusal.
pub record Count : Type 0 where
  pub refusal : ℕ
  pub count : ℕ

abbrev pub told : Result ℕ Refusal → Count
told r = record { refusal = refusal_in r; count = result_unwrap_or r 0 }

abbrev pub answer : ℕ → ℕ → Count
answer r n = record { refusal = r; count = n }

-- How many runs there are; a sheet that is not sound is refused by 9.
unfoldable pub counted : Head → List ℕ → List ℕ → Bool → Count
counted h m u j = cond (sound_of h m u) (answer 0 (length (records_in h m j))) (answer 9 0)

-- The same where `room` records can be written: 8 exactly when there are more.
unfoldable pub planned : Head → List ℕ → List ℕ → Bool → ℕ → Count
planned h m u j room = cond (leb (counted h m u j).count room) (counted h m u j) (answer 8 0)

-- What is said of a run by its number: the refusal's number, whether there is one, and the run, a blank one where there is none.
pub record Said : Type 0 where
  pub refusal : ℕ
  pub found : Bool
  pub run : Run

abbrev pub said : Result (Option Run) Refusal → Said
said r =
    let o = result_unwrap_or r None in
    record { refusal = refusal_in r; found = is_some o; run = unwrap_or o blank }

abbrev pub nothing : ℕ → Said
nothing r = record { refusal = r; found = false; run = blank }

-- The first run of a list, if there is one.
abbrev pub first : List Run → Said
first [] = nothing 0
first (r ∷ rs) = record { refusal = 0; found = true; run = r }

-- Run n of a sheet, from 0; none at or past the count.
unfoldable pub run_at : Head → List ℕ → List ℕ → Bool → ℕ → Said
run_at h m u j n = cond (sound_of h m u) (first (drop n (records_in h m j))) (nothing 9)

-- An iterator over the runs of a sheet; one that is not sound is refused.
abbrev pub Begun : Head → List ℕ → List ℕ → Bool → Result Runs Refusal → Type 0
Begun h m u j r =
    MatchResult r
    (λ s. (sound_of h m u ≡ true) × Ready s × (left s ≡ records_in h m j))
    (λ e. (sound_of h m u ≡ false) × (e ≡ Broken))

-- What an asking answers, and what it writes.
use Rattle.std.specs.Prelude.{ℕ, ◌+◌, ◌≡◌, Bool, true, false, cond, List, ◌∷◌, length, eqb, ltb, Option, Some, None, Result, Ok, Err}
use Rattle.std.specs.Result.{result_unwrap_or}
use Rattle.refusal.specs.declared.Refusal.{Refusal}
use Rattle.refusal.specs.declared.Refusal.TheVariants.{Full, Long, Broken}
use Rattle.refusal.specs.Numbers.{number_of, refusal_in}
use Rattle.table.specs.declared.TableHead.{TableHead}
use Rattle.table.specs.declared.Asked.{Asked as Answer}
use Rattle.table.specs.declared.Shelf.{Shelf}
use Rattle.entries.specs.Entry.{entries, seek, put_at}
use Rattle.table.specs.Value.{Value, kind_of, content_of}
use Rattle.table.specs.Sound.{sound_of}

-- Where names stand, and where values: the first slot, how many there are and may be, and the number of the first.
abbrev pub name_shelf : TableHead → Shelf
name_shelf h = record { from = 0; count = h.names; most = 16; first = 0 }

abbrev pub value_shelf : TableHead → Shelf
value_shelf h = record { from = 16; count = h.values; most = 255; first = 1 }

-- Entries of kind 0 are names, all others values.
unfoldable pub shelf_of : TableHead → ℕ → Shelf
shelf_of h k = cond (eqb k 0) (name_shelf h) (value_shelf h)

-- One entry of a kind more.
abbrev pub one_name : TableHead → TableHead
one_name h = record { names = h.names + 1; values = h.values }

abbrev pub one_value : TableHead → TableHead
one_value h = record { names = h.names; values = h.values + 1 }

unfoldable pub grown_of : TableHead → ℕ → TableHead
grown_of h k = cond (eqb k 0) (one_name h) (one_value h)

-- Content that no entry may have: over 32 bytes, or an empty name.
unfoldable pub too_long : ℕ → ℕ → Bool
too_long k n = cond (ltb 32 n) true (cond (eqb k 0) (eqb n 0) false)

-- LONG before all; a known entry is where it was first asked for; a new one, which is nowhere yet, needs a number that is left, else FULL.
unfoldable pub asking_of : ℕ → List (List ℕ) → ℕ → List ℕ → Result (Option ℕ) Refusal
asking_of most es k c =
    cond (too_long k (length c)) (Err Long)
    (cond (ltb (seek (k ∷ c) es) (length es)) (Ok (Some (seek (k ∷ c) es)))
    (cond (ltb (length es) most) (Ok None) (Err Full)))

-- What is answered: the refusal's number, 0 for none; the number that was asked for, 0 beside a refusal; and the head afterwards.
pub record Asked : Type 0 where
  pub refusal : ℕ
  pub number : ℕ
  pub head : TableHead

-- The answer of a call that was given the head h.
abbrev pub told : TableHead → Result Answer Refusal → Asked
told h r =
    record {
      refusal = refusal_in r;
      number = (result_unwrap_or r (record { number = 0; head = h })).number;
      head = (result_unwrap_or r (record { number = 0; head = h })).head;
    }

pub record Outcome : Type 0 where
  pub asked : Asked
  pub bytes : List ℕ

-- A refusal: its number, 0 for the other part, and everything as it was.
abbrev pub refused_with : ℕ → TableHead → List ℕ → Outcome
refused_with n h m = record { asked = record { refusal = n; number = 0; head = h }; bytes = m }

-- The number and the values of each case of an asking.
unfoldable pub outcome : TableHead → Shelf → List ℕ → ℕ → List ℕ → Result (Option ℕ) Refusal → Outcome
outcome h s m k c (Err r) = refused_with (number_of r) h m
outcome h s m k c (Ok (Some i)) =
    record { asked = record { refusal = 0; number = s.first + i; head = h }; bytes = m }
outcome h s m k c (Ok None) =
    record {
      asked = record { refusal = 0; number = s.first + s.count; head = grown_of h k };
      bytes = put_at m (s.from + s.count) k c;
    }

-- An asking: BROKEN for a table that is not sound, else what the entries of that kind say.
unfoldable pub ask_of : TableHead → List ℕ → ℕ → List ℕ → Outcome
ask_of h m k c =
    cond (sound_of h m)
    (outcome h (shelf_of h k) m k c (asking_of (shelf_of h k).most (entries m (shelf_of h k).from (shelf_of h k).count) k c))
    (refused_with (number_of Broken) h m)

-- A name is of kind 0, a value of its own.
abbrev pub ask_name : TableHead → List ℕ → List ℕ → Outcome
ask_name h m c = ask_of h m 0 c

abbrev pub ask_value : TableHead → List ℕ → Value → Outcome
ask_value h m v = ask_of h m (kind_of v) (content_of v)

-- A call's answer and the lent bytes at its end are those of an outcome.
abbrev pub Gives : Outcome → Asked → List ℕ → Type 0
Gives o r m = (r ≡ o.asked) × (m ≡ o.bytes)

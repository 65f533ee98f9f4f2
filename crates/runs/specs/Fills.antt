-- What a slice of records holds once it is filled.
use Rattle.std.specs.Prelude.{ℕ, ◌≡◌, Bool, List, length}
use Rattle.layout.specs.declared.head.Head.{Head}
use Rattle.cursors.specs.declared.run.Run.{Run}
use Rattle.runs.specs.Answers.{Count, written, records_in, planned}

-- The count that is answered is the number of records written: all of them, or none where the call is refused.
pub record Filled (h : Head) (m u : List ℕ) (j : Bool) (before after : List Run) (r : Count) : Type 0 where
  pub answers : r ≡ planned h m u j (length before)
  pub leaves : after ≡ written (records_in h m j) r.count before

-- An array that is lent to be filled, and handed back.
abbrev pub paged : Head → List ℕ → List ℕ → Bool → List Run → List Run
paged h m u j ys = written (records_in h m j) (planned h m u j (length ys)).count ys

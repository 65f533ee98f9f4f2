-- The moves of a removal by name.
use Rattle.std.specs.Prelude.{ℕ, Bool, not, ◌&&◌, ◌++◌, map, take, drop}
use Rattle.sets.specs.Sets.{Env}
use Rattle.rules.specs.Sheet.{Item, dead}
use Rattle.rules.specs.Places.{Move, stay}
use Rattle.rules.specs.Edits.{kill_units, to_end, idle, tidy_item, tidy}

-- The next n live units are deleted, and passed.
abbrev pub deleting : ℕ → Move
deleting n e l m = kill_units n l m

-- To the end of the gap.
abbrev pub ending : Move
ending e l m = to_end l m

-- A live mark that does nothing where s is in force at the start and e at the end.
abbrev pub idle_item : Env → Env → Item → Bool
idle_item s e i = not (dead i) && idle s e i.what

-- The next k items are tidied, and passed ..
abbrev pub tidy_first : ℕ → Env → Env → Move
tidy_first k s e f l m = record { left = map (tidy_item s e) (take k l); right = drop k l; next = m }

-- .. or the place stays.
abbrev pub tidy_ahead : ℕ → Env → Env → Move
tidy_ahead k s e f l m = stay (map (tidy_item s e) (take k l) ++ drop k l) m

-- Rule Tidy, where the deletion stopped behind the next k items.
abbrev pub tidying : ℕ → Move
tidying k e l m = tidy e (record { left = take k l; right = drop k l; next = m })

-- The deletion, and then Tidy.
abbrev pub delete_tidy : ℕ → Move
delete_tidy n e l m = tidy e (kill_units n l m)

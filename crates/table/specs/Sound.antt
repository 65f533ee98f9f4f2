-- When a table is sound.
use Rattle.std.specs.Prelude.{ℕ, Bool, false, cond, List, length, eqb}
use Rattle.entries.specs.Order.{shelf_sound}
use Rattle.table.specs.declared.TableHead.{TableHead}

-- A table with no entry.
abbrev pub fresh_head : TableHead
fresh_head = record { names = 0; values = 0 }

-- A table is sound where it has its full size, and its names and its values are.
unfoldable pub sound_of : TableHead → List ℕ → Bool
sound_of h m =
    cond (eqb (length m) 9214)
    (cond (shelf_sound m 0 h.names 16) (shelf_sound m 16 h.values 255) false)
    false

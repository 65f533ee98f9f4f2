-- Ranges: what is wrong with a removal.
use Rattle.std.specs.Prelude.{ℕ, cond, List}
use Rattle.rules.specs.Calls.{bad_range, too_long}

-- PAIR, then SHORT; 0 for neither.
abbrev pub removal_fault : List ℕ → ℕ → ℕ → ℕ
removal_fault us i n = cond (bad_range us i n) 2 (cond (too_long us i n) 1 0)

-- What the call answers and leaves.
use Rattle.std.specs.Prelude.{ℕ, Bool, cond, ◌||◌, List, ltb, length}
use Rattle.rules.specs.Calls.{apply_delta}
use Rattle.layout.specs.declared.head.Head.{Head}
use Rattle.layout.specs.Memory.{sound_of, Carried, kept_all, carry}
use Rattle.ops.specs.declared.delta.Delta.{Delta}
use Rattle.ops.specs.Ops.{ops_of}
use Rattle.deltas.specs.Checks.{many_of}

-- Scratch of sm words and su units is shorter than the sheet's buffers.
abbrev pub short_scratch : ℕ → ℕ → Bool
short_scratch sm su = ltb sm 2048 || ltb su 16384

-- A delta with its lent units us, and scratch: 9 for a sheet that is not sound, then 7, then 8 for the scratch, and all as it was;
-- else what the rules make of its operations.
unfoldable pub carry_delta : ℕ → ℕ → List ℕ → Delta → Head → List ℕ → List ℕ → Carried
carry_delta sm su us d h m u =
    let measured = cond (short_scratch sm su) (kept_all 8 h m u) (carry (apply_delta (ops_of us d)) h m u) in
    let read = cond (many_of (length us) d) (kept_all 7 h m u) measured in
    cond (sound_of h m u) read (kept_all 9 h m u)

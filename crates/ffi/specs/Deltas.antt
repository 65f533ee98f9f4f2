-- A delta in operation numbers.
use Rattle.std.specs.Prelude.{ℕ, zero, suc, ◌/◌, ◌%◌, cond, List, eqb, ltb, length, Option, Some, None}
use Rattle.layout.specs.declared.head.Head.{Head}
use Rattle.layout.specs.Memory.{sound_of, Carried, kept_all}
use Rattle.ops.specs.declared.delta.DeltaOp.{DeltaOp}
use Rattle.ops.specs.declared.delta.Delta.{Delta}
use Rattle.ops.specs.Ops.{empty_delta, pushed}
use Rattle.encoding.specs.Words.{found_at}
use Rattle.deltas.specs.Call.{carry_delta}

-- One operation more; once something is no operation, the whole is none.
abbrev pub added : Option Delta → Option DeltaOp → Option Delta
added None o = None
added (Some d) None = None
added (Some d) (Some o) = Some (pushed d o).delta

-- The first n operations.
unfoldable pub read_ops : ℕ → List ℕ → Option Delta
read_ops zero w = Some empty_delta
read_ops (suc n) w = added (read_ops n w) (found_at w n)

-- Eight numbers to each of at most 256 operations.
unfoldable pub delta_in : List ℕ → Option Delta
delta_in w = cond (ltb 2048 (length w)) None (cond (eqb (length w % 8) 0) (read_ops (length w / 8) w) None)

-- Numbers that are no operations get 7, on a sound sheet; else what the delta gives.
abbrev pub carry_read : ℕ → ℕ → List ℕ → Option Delta → Head → List ℕ → List ℕ → Carried
carry_read sm su us None h m u = cond (sound_of h m u) (kept_all 7 h m u) (kept_all 9 h m u)
carry_read sm su us (Some d) h m u = carry_delta sm su us d h m u

unfoldable pub carry_words : ℕ → ℕ → List ℕ → List ℕ → Head → List ℕ → List ℕ → Carried
carry_words sm su us w h m u = carry_read sm su us (delta_in w) h m u

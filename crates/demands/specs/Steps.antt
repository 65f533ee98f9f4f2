-- A sheet in its owner's buffers, and what calls make of it, one after the other.
use Rattle.std.specs.Prelude.{ℕ, Bool, cond, List, [], ◌∷◌}
use Rattle.rules.specs.Reading.{Op}
use Rattle.rules.specs.Calls.{Sheet, Body, Call, apply_delta, begin_now}
use Rattle.layout.specs.declared.head.Head.{Head}
use Rattle.layout.specs.Heads.{fresh_head}
use Rattle.layout.specs.Memory.{model_of, sound_of, Carried, kept_all, carry}

-- What a caller holds: the head, and both buffers.
pub record State : Type 0 where
  pub head : Head
  pub words : List ℕ
  pub units : List ℕ

-- A fresh head, whatever lies in the buffers.
abbrev pub fresh_state : List ℕ → List ℕ → State
fresh_state m u = record { head = fresh_head; words = m; units = u }

abbrev pub sound : State → Bool
sound s = sound_of s.head s.words s.units

-- The sheet of the rules that lies there.
abbrev pub model : State → Sheet
model s = model_of s.head s.words s.units

-- A call that the rules decide, or a delta that is turned away with a number before any rule is asked.
pub data Step : Type 0 where
  does : Call → Step
  turned : ℕ → Step

-- What a step answers and leaves. An unsound sheet is refused before all else.
abbrev pub answered : Step → State → Carried
answered (does c) s = carry c s.head s.words s.units
answered (turned n) s = cond (sound s) (kept_all n s.head s.words s.units) (kept_all 9 s.head s.words s.units)

abbrev pub left : Carried → State
left c = record { head = c.head; words = c.words; units = c.units }

-- The state after steps, refused ones among them, and the number that each answers.
abbrev pub after : List Step → State → State
after [] s = s
after (t ∷ ts) s = after ts (left (answered t s))

abbrev pub numbers : List Step → State → List ℕ
numbers [] s = []
numbers (t ∷ ts) s = (answered t s).refusal ∷ numbers ts (left (answered t s))

-- What `begin` leaves.
abbrev pub begun : State → State
begun s = left (answered (does begin_now) s)

-- The calls that the rules decide.
abbrev pub calls_of : List Step → List Call
calls_of [] = []
calls_of (does c ∷ ts) = c ∷ calls_of ts
calls_of (turned n ∷ ts) = calls_of ts

-- A delta as a step: 7 if it has too much in it, else 8 if the scratch is too short, else the rules decide.
abbrev pub delta_step : Bool → Bool → List (Op Body) → Step
delta_step many short ops = cond many (turned 7) (cond short (turned 8) (does (apply_delta ops)))

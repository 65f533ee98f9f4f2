-- What a caller may count on, said of the sheet in memory.
use Rattle.std.specs.Prelude.{ℕ, ◌≤◌, ◌<◌, ◌≡◌, true, false, cond, List, map, ◌↔◌, length}
use Rattle.rules.specs.Reading.{live, before, cells, seen_glyphs, visible, read}
use Rattle.rules.specs.Event.{event, told_units}
use Rattle.rules.specs.Scripts.{Tells}
use Rattle.rules.specs.Calls.{Call, AllPaired}
use Rattle.rules.specs.Rulings.{ruling, ruled, unwhole, in_pair, too_far, crowded, Exactly, FineCall}
use Rattle.rules.specs.Shows.{shows, length_after}
use Rattle.layout.specs.Memory.{stored_all}
use Rattle.events.specs.Told.{Ops}
use Rattle.events.specs.Given.{refusal, fits_in}
use Rattle.demands.specs.Steps as steps
use Rattle.demands.specs.Steps.{State, model, Step, does, turned, answered, left}
use Rattle.demands.specs.Written.{wrote, read_back, spelled_op, page}

-- ---- from `begin` to `event`
-- The event of the rules between what stood at the beginning and what stands in memory now.
abbrev pub event_of : State → Ops
event_of k = event before live (model k).items

-- What `event` wrote into w and o, read back.
abbrev pub read_event : State → List ℕ → List ℕ → Ops
read_event k w o = read_back 0 (wrote k w o).answer.ops (wrote k w o).words (wrote k w o).units

-- The sheet was s at `begin` and is k now; `event` is lent w for its operations and o for their units.
pub record Replays (s k : State) (w o : List ℕ) : Type 0 where
  pub sound : steps.sound k ≡ true
  -- It answers 8 exactly when what is lent is too short, and then it writes nothing; else it answers 0.
  pub number : (wrote k w o).answer.refusal ≡ cond (fits_in (length w) (length o) (event_of k)) 0 8
  pub kept : (wrote k w o).answer.refusal ≡ 8 → wrote k w o ≡ record { answer = refusal 8; words = w; units = o }
  -- With room for 2,048 operations, eight numbers to each, and for 16,384 units, it is never refused.
  pub room : 16384 ≤ length w → 16384 ≤ length o → (wrote k w o).answer.refusal ≡ 0
  -- It answers how many operations and units it wrote: all of the event's.
  pub counts : (wrote k w o).answer.refusal ≡ 0 → ((wrote k w o).answer.ops ≡ length (event_of k)) × ((wrote k w o).answer.units ≡ told_units (event_of k))
  -- What it wrote, read back, is the event, with the very units ..
  pub back : (wrote k w o).answer.refusal ≡ 0 → read_event k w o ≡ map (spelled_op k.units) (event_of k)
  -- .. and that, read over what was seen at `begin`, gives what is seen now, for any key.
  pub replays : (wrote k w o).answer.refusal ≡ 0 → (j : ℕ) → j < 16 → read j (read_event k w o) (page j s) ≡ page j k
  -- It drops just the units seen at `begin` that are gone, passes over all others, and gives just the new ones, in order.
  pub tells : Tells before live (model k).items (seen_glyphs (model s).items)

-- ---- one step
-- A call that the rules decide, on any head and any buffers.
pub record Called (c : Call) (s : State) : Type 0 where
  -- 9 exactly on what is not a sound sheet; on a sound one 3, 2, 1, 4 and acceptance each exactly when.
  pub broken : ((answered (does c) s).refusal ≡ 9) ↔ (steps.sound s ≡ false)
  pub exactly : steps.sound s ≡ true → Exactly (unwhole c (model s)) (in_pair c (model s)) (too_far c (model s)) (crowded c (model s)) (answered (does c) s).refusal
  -- Refused: head and both buffers are as they were.
  pub kept : ((answered (does c) s).refusal ≡ 0 → ⊥) → left (answered (does c) s) ≡ s
  -- Accepted: the rules' sheet, stored in the buffers, and nothing else touched; it is what lies there then.
  pub stored : (answered (does c) s).refusal ≡ 0 → answered (does c) s ≡ stored_all (ruled (ruling c (model s))) s.head s.words s.units
  pub lies : (answered (does c) s).refusal ≡ 0 → model (left (answered (does c) s)) ≡ ruled (ruling c (model s))
  -- A sound sheet stays sound, and no piece holds half a pair.
  pub sound : steps.sound s ≡ true → steps.sound (left (answered (does c) s)) ≡ true
  pub pairs : steps.sound s ≡ true → AllPaired (model (left (answered (does c) s))).units (model (left (answered (does c) s))).items
  -- What is seen then, for any key, and how long it is.
  pub shown : (answered (does c) s).refusal ≡ 0 → (j : ℕ) → j < 16 → cells live j 0 (model (left (answered (does c) s))).items ≡ shows j c (model s)
  pub long : (answered (does c) s).refusal ≡ 0 → visible (model (left (answered (does c) s))).items ≡ length_after c (model s)

-- A delta that is turned away keeps all, and answers its number on a sound sheet.
pub record TurnedAway (n : ℕ) (s : State) : Type 0 where
  pub number : (answered (turned n) s).refusal ≡ cond (steps.sound s) n 9
  pub kept : left (answered (turned n) s) ≡ s

abbrev pub Settled : Step → State → Type 0
Settled (does c) s = Called c s
Settled (turned n) s = TurnedAway n s

-- A step as it can be handed in.
abbrev pub FineStep : Step → Type 0
FineStep (does c) = FineCall c
FineStep (turned n) = Unit {0}

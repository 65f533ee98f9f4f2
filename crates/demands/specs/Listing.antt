-- The runs of a sheet in memory as a caller gets them, and what they say.
use Rattle.std.specs.Prelude.{ℕ, zero, suc, ◌≤◌, ◌<◌, ◌≡◌, Bool, true, false, cond, List, [], ◌∷◌, ◌++◌, map, length, take, drop}
use Rattle.sets.specs.Sets.{keys, present}
use Rattle.attrs.specs.Packed.{says, env_of}
use Rattle.rules.specs.Reading.{Glyph, thing, Cell, paint, seen_glyphs}
use Rattle.cursors.specs.declared.run.Run.{Run}
use Rattle.runs.specs.Answers.{counted, run_at, nothing}
use Rattle.demands.specs.Steps.{State, model}
use Rattle.demands.specs.Written.{spelled, page}

-- How many `count_runs` answers, and the n runs that `run_at` hands out from number i on; b asks for joined ones.
abbrev pub run_count : State → Bool → ℕ
run_count s b = (counted s.head s.words s.units b).count

abbrev pub runs_read : State → Bool → ℕ → ℕ → List Run
runs_read s b i zero = []
runs_read s b i (suc n) = (run_at s.head s.words s.units b i).run ∷ runs_read s b (suc i) n

abbrev pub all_runs : State → Bool → List Run
all_runs s b = runs_read s b 0 (run_count s b)

-- The visible units and embeds that a run stands for: those from its start on, or its own embed ..
abbrev pub run_glyphs : List Glyph → Run → List Glyph
run_glyphs gs r = cond r.embed (thing r.number ∷ []) (take r.len (drop r.start gs))

-- .. each with the value that the run's set has for the key j.
abbrev pub runs_show : ℕ → List Glyph → List Run → List Cell
runs_show j gs [] = []
runs_show j gs (r ∷ rs) = paint (env_of r.attrs j) (run_glyphs gs r) ++ runs_show j gs rs

abbrev pub visible_of : State → List Glyph
visible_of s = map (spelled s.units) (seen_glyphs (model s).items)

-- Of two neighbours, both text, some key has another value.
abbrev pub Apart : List Run → Type 0
Apart [] = Unit {0}
Apart (r ∷ []) = Unit {0}
Apart (r ∷ s ∷ rs) = (r.embed ≡ false → s.embed ≡ false → (k : ℕ) × (k < 16) × (env_of r.attrs k ≡ env_of s.attrs k → ⊥)) × Apart (s ∷ rs)

-- Each run's number of keys is the number of keys that its set has.
abbrev pub Counted : List Run → Type 0
Counted [] = Unit {0}
Counted (r ∷ rs) = (r.count ≡ length (present keys (says r.attrs))) × Counted rs

-- Of a sound sheet: runs are handed out up to their count and none past it; they show, in order, just what is seen, for any key.
pub record Listed (s : State) (b : Bool) : Type 0 where
  pub accepted : (counted s.head s.words s.units b).refusal ≡ 0
  pub past : (n : ℕ) → run_count s b ≤ n → run_at s.head s.words s.units b n ≡ nothing 0
  pub shows : (j : ℕ) → j < 16 → runs_show j (visible_of s) (all_runs s b) ≡ page j s
  pub counts : Counted (all_runs s b)
  -- Joined ones cannot be joined further.
  pub apart : b ≡ true → Apart (all_runs s b)

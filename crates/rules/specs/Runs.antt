-- Runs: the visible text in stretches, with what is in force on each.
use Rattle.std.specs.Prelude.{ℕ, zero, suc, Bool, true, false, cond, ◌&&◌, List, [], ◌∷◌, ◌++◌, eqb, length}
use Rattle.sets.specs.Sets.{Env, none, keys, same_force}
use Rattle.rules.specs.Sheet.{text, embed, mark, Item, dead}
use Rattle.rules.specs.Reading.{live, pass_key, Glyph, thing, glyphs}

-- A run: a text or one embed, and what is in force on it.
pub data Chunk : Type 0 where
  words : List Glyph → Chunk
  object : ℕ → Chunk

pub record Run : Type 0 where
  pub chunk : Chunk
  pub force : Env

-- `pack_str`: the text gathered, if there is some
abbrev pub pack : List Glyph → Env → List Run
pack [] e = []
pack (g ∷ gs) e = record { chunk = words (g ∷ gs); force = e } ∷ []

-- Rule Runs: texts are gathered over deleted items; a live mark ends what was gathered, even if it changes nothing; so does an
-- embed, which is a run by itself.
abbrev pub runs_from : List Glyph → Env → List Item → List Run
runs_from b e [] = pack b e
runs_from b e (i ∷ l) =
    let e₁ : Env = λ k. pass_key live k i (e k) in
    let same = runs_from b e l in
    let more = runs_from (b ++ glyphs i.what) e l in
    let marked = pack b e ++ runs_from [] e₁ l in
    let alone : ℕ → List Run = λ x. pack b e ++ (record { chunk = object x; force = e } ∷ runs_from [] e l) in
    cond (dead i) same (elim i.what [ text s n ↦ more | embed x ↦ alone x | mark k v ↦ marked ])

abbrev pub runs : List Item → List Run
runs l = runs_from [] none l

abbrev pub is_text : Chunk → Bool
is_text (words gs) = true
is_text (object e) = false

abbrev pub glyphs_of : Chunk → List Glyph
glyphs_of (words gs) = gs
glyphs_of (object e) = thing e ∷ []

-- Rule Joined runs: of neighbours, both text, with the same values in force, one is made.
abbrev pub mergeable : Run → Run → Bool
mergeable r s = is_text r.chunk && is_text s.chunk && same_force keys r.force s.force

abbrev pub merged : Run → Run → Run
merged r s = record { chunk = words (glyphs_of r.chunk ++ glyphs_of s.chunk); force = s.force }

abbrev pub ahead : Run → List Run → List Run
ahead r [] = r ∷ []
ahead r (s ∷ rs) = cond (mergeable r s) (merged r s ∷ rs) (r ∷ s ∷ rs)

abbrev pub joined : List Run → List Run
joined [] = []
joined (r ∷ rs) = ahead r (joined rs)

-- A run's keys that have a value, ascending, and how many they are.
abbrev pub keys_of : List ℕ → Env → List ℕ
keys_of [] e = []
keys_of (k ∷ ks) e = let on = keys_of ks e in cond (eqb (e k) 0) on (k ∷ on)

abbrev pub run_keys : Run → List ℕ
run_keys r = keys_of keys r.force

abbrev pub run_count : Run → ℕ
run_count r = length (run_keys r)

-- The run with a number, counted from 0: none at or past their count.
pub data RunAnswer : Type 0 where
  no_run : RunAnswer
  the_run : Run → RunAnswer

abbrev pub run_at : ℕ → List Run → RunAnswer
run_at n [] = no_run
run_at zero (r ∷ rs) = the_run r
run_at (suc n) (r ∷ rs) = run_at n rs

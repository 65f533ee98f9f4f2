-- What an event's script does to the old units one by one, and which new ones it gives.
use Rattle.std.specs.Prelude.{ℕ, ◌≡◌, Bool, true, false, cond, not, ◌&&◌, List, [], ◌∷◌, ◌++◌, replicate}
use Rattle.rules.specs.Sheet.{Item}
use Rattle.rules.specs.Reading.{Seen, Glyph, glyphs}
use Rattle.rules.specs.Event.{event, Act, keep, drop, give, script, fates}

-- the units and embeds that a reading sees
abbrev pub seen_by : Seen → List Item → List Glyph
seen_by f [] = []
seen_by f (i ∷ l) = cond (f i.flags) (glyphs i.what) [] ++ seen_by f l

-- An old unit, and whether it stays.
pub record Fate : Type 0 where
  pub glyph : Glyph
  pub stays : Bool

abbrev pub fated : Bool → List Glyph → List Fate
fated b [] = []
fated b (g ∷ gs) = record { glyph = g; stays = b } ∷ fated b gs

-- The script over the old units: keep and drop each take the next one; those left over stay.
abbrev pub fates_over : List Act → List Glyph → List Fate
fates_over [] gs = fated true gs
fates_over (keep ∷ acts) [] = []
fates_over (keep ∷ acts) (g ∷ gs) = record { glyph = g; stays = true } ∷ fates_over acts gs
fates_over (drop ∷ acts) [] = []
fates_over (drop ∷ acts) (g ∷ gs) = record { glyph = g; stays = false } ∷ fates_over acts gs
fates_over (give x ∷ acts) gs = fates_over acts gs

-- the new units that a script gives, in order
abbrev pub given : List Act → List Glyph
given [] = []
given (keep ∷ acts) = given acts
given (drop ∷ acts) = given acts
given (give g ∷ acts) = g ∷ given acts

-- what the items say: each unit seen before, and whether it is seen now
abbrev pub old_units : Seen → Seen → List Item → List Fate
old_units was now [] = []
old_units was now (i ∷ l) = cond (was i.flags) (fated (now i.flags) (glyphs i.what)) [] ++ old_units was now l

-- the units seen now and not before
abbrev pub new_units : Seen → Seen → List Item → List Glyph
new_units was now l = seen_by (λ f. not (was f) && now f) l

-- equal but for keeps at the end
pub record UpToKeeps (a b : List Act) : Type 0 where
  pub keeps : ℕ
  pub same : a ++ replicate keeps keep ≡ b

-- The event between two readings of a list, whose old units are `old`: unit by unit it is as the items say, up to keeps at the end;
-- it drops exactly the old units that are no longer seen, keeps all others, and gives exactly the new ones.
pub record Tells (was now : Seen) (l : List Item) (old : List Glyph) : Type 0 where
  pub acts : UpToKeeps (script (event was now l)) (fates was now l)
  pub olds : fates_over (script (event was now l)) old ≡ old_units was now l
  pub news : given (script (event was now l)) ≡ new_units was now l

-- What a sound list is. A sound sheet, with whole pairs and the limits, is `Rulings.SoundSheet`.
use Rattle.std.specs.Prelude.{ℕ, ◌+◌, ◌≤◌, ◌<◌, ◌≡◌, Bool, true, cond, not, ◌&&◌, ◌||◌, List, [], ◌∷◌, eqb, ltb, length}
use Rattle.rules.specs.Sheet.{What, text, embed, mark, Flags, Item}

-- Flags tell the truth: what is deleted now is deleted, and what is added and deleted was deleted now.
abbrev pub honest : Flags → Bool
honest f = (not f.gone || f.dead) && (not (f.added && f.dead) || f.gone)

-- Texts have a unit or more, all of them in use; keys and values are in range.
abbrev pub Fits : ℕ → What → Type 0
Fits used (text s n) = (0 < n) × (s + n ≤ used)
Fits used (embed e) = Unit {0}
Fits used (mark k v) = (k < 16) × (v < 256)

abbrev pub AllFit : ℕ → List Item → Type 0
AllFit used [] = Unit {0}
AllFit used (i ∷ l) = (honest i.flags ≡ true) × Fits used i.what × AllFit used l

-- the units of all texts, deleted ones too
abbrev pub held : List Item → ℕ
held [] = 0
held (i ∷ l) = elim i.what [ text s n ↦ n | embed e ↦ 0 | mark k v ↦ 0 ] + held l

-- how often a number occurs
abbrev pub occurs : ℕ → List Item → ℕ
occurs j [] = 0
occurs j (i ∷ l) = cond (eqb j i.num) 1 0 + occurs j l

abbrev pub below : ℕ → ℕ → ℕ
below j m = cond (ltb j m) 1 0

pub record SoundList (l : List Item) (next used : ℕ) : Type 0 where
  pub fit : AllFit used l
  -- as many units in texts as are in use (two texts may still show the same ones)
  pub whole : held l ≡ used
  -- the numbers given out are those below the next one, each once
  pub once : (j : ℕ) → occurs j l ≡ below j next
  pub count : length l ≡ next

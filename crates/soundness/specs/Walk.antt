-- What the walk that measures a sheet is told beforehand, and what it tells.
use Rattle.std.specs.Prelude.{ℕ, ◌≤◌, ◌≡◌, Bool, true, false, cond, List, length, take, Option, Some, None}
use Rattle.units.specs.Surrogates.{halves}
use Rattle.rules.specs.Reading.{visible}
use Rattle.layout.specs.declared.head.Head.{Head}
use Rattle.layout.specs.Memory.{list_of, sound_of}

-- The buffers have their full size, and the counts keep the limits.
pub record Sized (h : Head) (m u : List ℕ) : Type 0 where
  pub words : length m ≡ 2048
  pub room : length u ≡ 16384
  pub items : h.items ≤ 2048
  pub used : h.units ≤ 16384

-- Where p is true no used unit is half of a pair.
abbrev pub Plain : Bool → ℕ → List ℕ → Type 0
Plain p used u = p ≡ true → halves (take used u) ≡ 0

-- Whether a lent sheet is sound, and how many units and embeds are visible then.
pub record Measured : Type 0 where
  pub sound : Bool
  pub len : ℕ

abbrev pub broken : Measured
broken = record { sound = false; len = 0 }

abbrev pub told : Option ℕ → Measured
told None = broken
told (Some n) = record { sound = true; len = n }

-- Soundness, and the visible length beside it; 0 where the sheet is not sound.
unfoldable pub measure_of : Head → List ℕ → List ℕ → Measured
measure_of h m u = cond (sound_of h m u) (record { sound = true; len = visible (list_of h m) }) broken

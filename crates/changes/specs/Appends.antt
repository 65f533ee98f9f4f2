-- New units behind those in use.
use Rattle.std.specs.Prelude.{ℕ, List, ◌++◌, take}
use Rattle.layout.specs.Memory.{stored_units}

-- Units put behind the first m of a buffer; what lies behind them stays.
abbrev pub appended : ℕ → List ℕ → List ℕ → List ℕ
appended m us u = stored_units (take m u ++ us) u

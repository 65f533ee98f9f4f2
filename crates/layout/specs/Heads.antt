-- Heads.
use Rattle.std.specs.Prelude.{ℕ}
use Rattle.layout.specs.declared.head.Head.{Head}
use Rattle.layout.specs.Chain.{END}

-- A sheet that holds nothing.
abbrev pub fresh_head : Head
fresh_head = record { first = END; items = 0; units = 0 }

-- A head with another first item and other counts.
abbrev pub grown_head : Head → ℕ → ℕ → ℕ → Head
grown_head h f i u = record { first = f; items = i; units = u }

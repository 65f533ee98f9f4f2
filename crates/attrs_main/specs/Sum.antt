-- The sum of the values in force at some keys.
use Rattle.std.specs.Prelude.{List, [], ◌∷◌, ℕ, ◌+◌}
use Rattle.sets.specs.Sets.{Env}

unfoldable pub sum_of : Env → List ℕ → ℕ
sum_of e [] = 0
sum_of e (k ∷ ks) = e k + sum_of e ks

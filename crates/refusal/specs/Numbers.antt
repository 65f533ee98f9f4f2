-- The numbers that callers from outside are given.
use Rattle.std.specs.Prelude.{ℕ, Result, Ok, Err}
use Rattle.refusal.specs.declared.Refusal.{Refusal}
use Rattle.refusal.specs.declared.Refusal.TheVariants.{Short, Pair, Units, Room, Full, Long, Many, Out, Broken, Key}

abbrev pub number_of : Refusal → ℕ
number_of Short = 1
number_of Pair = 2
number_of Units = 3
number_of Room = 4
number_of Full = 5
number_of Long = 6
number_of Many = 7
number_of Out = 8
number_of Broken = 9
number_of Key = 16

-- What an answer says of it: 0 where the call is accepted.
abbrev pub refusal_in : {A : Type 0} → Result A Refusal → ℕ
refusal_in (Ok a) = 0
refusal_in (Err r) = number_of r

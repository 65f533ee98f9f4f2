-- Kinds as the bytes of slots.
use Rattle.std.specs.Prelude.{ℕ, Option, Some, None, cond, eqb}
use Rattle.entries.specs.declared.kinds.Kind.{Kind}
use Rattle.entries.specs.declared.kinds.Kind.TheVariants.{Name, Bool as IsBool, Int as IsInt, String as IsString}

abbrev pub byte_of : Kind → ℕ
byte_of Name = 0
byte_of IsBool = 1
byte_of IsInt = 2
byte_of IsString = 3

-- The kind that a byte stands for: none, past 3.
abbrev pub kind_in : ℕ → Option Kind
kind_in k =
    cond (eqb k 0) (Some Name)
    (cond (eqb k 1) (Some IsBool)
    (cond (eqb k 2) (Some IsInt)
    (cond (eqb k 3) (Some IsString) None)))

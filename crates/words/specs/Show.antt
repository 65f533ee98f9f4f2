-- What is written: bytes behind others, numbers by their digits, units and attributes each behind a space.
use Rattle.std.specs.Prelude.{◌≡◌, cond, List, [], ◌∷◌, ◌++◌, ℕ, zero, suc, ◌+◌, ◌/◌, ◌%◌, ◌≤◌, ltb, length, take, drop}
use Rattle.attrs.specs.declared.Attrs.{Attrs}
use Rattle.sets.specs.Bits.{keys_of}
use Rattle.attrs.specs.Packed.{env_of}

-- The text lies behind the first n bytes, and nothing else is changed.
unfoldable pub wrote : List ℕ → ℕ → List ℕ → List ℕ
wrote out n text = take n out ++ (text ++ drop (n + length text) out)

pub record Wrote (before after : List ℕ) (n : ℕ) (text : List ℕ) (r : ℕ) : Type 0 where
  pub is : after ≡ wrote before n text
  pub next : r ≡ n + length text
  pub long : length after ≡ length before
  pub room : r ≤ length after

-- Decimal digits, the highest first, as many as the number has; none has more than the first argument.
unfoldable pub spelled : ℕ → ℕ → List ℕ
spelled zero x = []
spelled (suc f) x = cond (ltb x 10) ((48 + x) ∷ []) (spelled f (x / 10) ++ ((48 + x % 10) ∷ []))

-- A number of 64 bits has at most twenty.
abbrev pub decimal_text : ℕ → List ℕ
decimal_text x = spelled 20 x

-- `0` to `9`, then `A` to `F`.
abbrev pub hex_digit : ℕ → ℕ
hex_digit d = cond (ltb d 10) (48 + d) (55 + d)

abbrev pub unit_text : ℕ → List ℕ
unit_text u = 32 ∷ hex_digit (u / 4096) ∷ hex_digit (u / 256 % 16) ∷ hex_digit (u / 16 % 16) ∷ hex_digit (u % 16) ∷ []

abbrev pub pair_text : ℕ → ℕ → List ℕ
pair_text k v = 32 ∷ (decimal_text k ++ (61 ∷ decimal_text v))

unfoldable pub pairs_text : Attrs → List ℕ → List ℕ
pairs_text a [] = []
pairs_text a (k ∷ ks) = pair_text k (env_of a k) ++ pairs_text a ks

-- Each key of the set with its value, null as 0.
abbrev pub attrs_text : Attrs → List ℕ
attrs_text a = pairs_text a (keys_of a.mask)

-- Input that waits: its first line.
use mathlib.Core.Path.{◌≡◌, refl}
use mathlib.Core.List.{List}
use Prim.Native.Nat.{ℕ, ◌+◌, ◌-◌, ◌≤◌, ◌<◌}
use native.Mathlib.Omega.{arith}
use borrow.Author.Tests.{ltb-true}
use mathlib.Core.Bool.{Bool, true, false, cond}
use lib.Dec.{ltb}
use lib.ListN.{length, drop, length-drop}
use lib.Seq.{length-take-le}
use Rattle.words.specs.Words.{leading}
use Rattle.words.specs.Input.{waiting, line_of}
use Rattle.words.specs.declared.words.Class.TheVariants.{Line as ToNewline}
use Rattle.std.specs.Prelude.{Some, None}

-- The newline of a line that is handed out waits too.
pub whole-within : (buf : List ℕ) (start end e : ℕ) → start ≤ end → end ≤ length buf → line_of (waiting buf start end) ≡ Some e → start + e < end
unfolding line_of
whole-within buf start end e o h p = go (ltb l (length w)) refl p
  where
    w : List ℕ
    w = waiting buf start end

    l : ℕ
    l = leading ToNewline w

    go : (t : Bool) → ltb l (length w) ≡ t → cond t (Some l) None ≡ Some e → start + e < end
    go true q r =
        let same : l ≡ e = cc in
        omega (arith, ltb-true l (length w) q, length-take-le (end - start) (drop start buf) (omega (arith, length-drop start buf)))
    go false q r = cc

-- What a mask's conversion and eight numbers of a list say.
use Prim.Native.Nat.{ℕ, ◌+◌, ◌*◌, ◌<◌, ◌≤◌}
use native.Mathlib.Omega.{arith}
use native.Mathlib.Nat.{add-zero}
use mathlib.Core.Path.{◌≡◌, ap, ◌∙◌}
use mathlib.Core.Bool.{true, false}
use mathlib.Core.List.{List}
use lib.Dec.{ltb}
use lib.ListN.{length, get_or, take, drop}
use borrow.Author.Tests.{lt-ltb, le-ltb}
use Rattle.std.specs.Prelude.{None, Some, Result, Ok, Err}
use Rattle.std.specs.Result.{OkIff, result_ok}
use Rattle.std.proofs.lemmas.List.{get_or-take, get_or-drop}
use Rattle.encoding.specs.Words.{found_from, found_at}

pub too_wide : {E : Type 0} (m : ℕ) (r : Result ℕ E) → OkIff r (m < 65536) m → None ≡ result_ok r → ltb 65535 m ≡ true
too_wide m (Ok x) h e = cc
too_wide m (Err x) h e = lt-ltb 65535 m (omega arith)

pub fits_in : {E : Type 0} (m x : ℕ) (r : Result ℕ E) → OkIff r (m < 65536) m → Some x ≡ result_ok r → (ltb 65535 m ≡ false) × (x ≡ m)
fits_in m x (Ok y) h e = (le-ltb 65535 m (omega arith), cc)
fits_in m x (Err y) h e = cc

pub from_chunk : (w y : List ℕ) (at : ℕ) → y ≡ take 8 (drop at w) → found_from y 0 ≡ found_from w at
from_chunk w y at e =
    let g : (k : ℕ) → k < 8 → get_or y k 0 ≡ get_or w (at + k) 0 = λ k h. ap (λ (l : List ℕ). get_or l k 0) e ∙ get_or-take 8 (drop at w) k 0 h ∙ get_or-drop at w k 0 in
    let z : get_or y 0 0 ≡ get_or w at 0 = g 0 (omega arith) ∙ ap (λ (n : ℕ). get_or w n 0) (add-zero at) in
    rw (z, g 1 (omega arith), g 2 (omega arith), g 3 (omega arith), g 4 (omega arith), g 5 (omega arith), g 6 (omega arith), g 7 (omega arith))

pub past_end : (w : List ℕ) (i : ℕ) → length w < i * 8 + 8 → found_at w i ≡ None
unfolding found_at
past_end w i h = rw (lt-ltb (length w) (i * 8 + 8) h)

pub at_place : (w : List ℕ) (i : ℕ) → i * 8 + 8 ≤ length w → found_at w i ≡ found_from w (i * 8)
unfolding found_at
at_place w i h = rw (le-ltb (length w) (i * 8 + 8) h)

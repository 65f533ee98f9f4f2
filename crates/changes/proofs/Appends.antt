-- Units put behind those in use: how long the buffer is, and once more behind them. Assumes nothing.
use Prim.Native.Nat.{ℕ, ◌+◌, ◌≤◌}
use native.Mathlib.Omega.{arith}
use mathlib.Core.Path.{◌≡◌, refl, sym, ap, ◌∙◌}
use mathlib.Core.List.{List, [], ◌++◌, append_assoc}
use lib.ListN.{length, take, drop, length-append}
use lib.Seq.{length-take-le, length_front, take_at, drop-append-add, drop-drop, paste-zero}
use Rattle.changes.specs.Appends.{appended}

module _ (u xs : List ℕ) (a n : ℕ) (low : a ≤ length u) (long : length xs ≡ n) where
  front_long : length (take a u ++ xs) ≡ a + n
  front_long = omega (arith, length-append (take a u) xs, length-take-le a u low)

  appended-is : (take a u ++ xs) ++ drop (a + n) u ≡ appended a xs u
  appended-is = ap (λ (k : ℕ). (take a u ++ xs) ++ drop k u) (sym front_long)

  pub appended-length : a + n ≤ length u → length (appended a xs u) ≡ length u
  appended-length room =
      let e : List ℕ = take a u ++ xs in
      length_front u e (length e) (sym (length-take-le (length e) u (omega (arith, front_long))))

  pub appended-twice : (ys : List ℕ) → appended (a + n) ys (appended a xs u) ≡ appended a (xs ++ ys) u
  appended-twice ys =
      let p : List ℕ = take a u ++ xs in
      let q : List ℕ = drop (length p) u in
      ap (λ (x : List ℕ). (x ++ ys) ++ drop (length (x ++ ys)) (p ++ q)) (take_at p q (a + n) front_long)
      ∙ ap (λ (k : ℕ). (p ++ ys) ++ drop k (p ++ q)) (length-append p ys)
      ∙ ap (λ (x : List ℕ). (p ++ ys) ++ x) (drop-append-add p q (length ys) ∙ drop-drop (length ys) (length p) u)
      ∙ ap (λ (k : ℕ). (p ++ ys) ++ drop k u) (sym (length-append p ys))
      ∙ ap (λ (x : List ℕ). x ++ drop (length x) u) (append_assoc (take a u) xs ys)

pub appended-none : (u : List ℕ) (a : ℕ) → a ≤ length u → u ≡ appended a [] u
appended-none u a low = paste-zero u a [] ∙ appended-is u [] a 0 low refl

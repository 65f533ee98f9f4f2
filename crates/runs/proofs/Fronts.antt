-- One list over the front of another, element by element. Assumes nothing.
use Prim.Native.Nat.{ℕ, zero, suc, ◌+◌, ◌<◌, ◌≤◌}
use native.Mathlib.Numerals.{add-one}
use native.Mathlib.Omega.{arith}
use mathlib.Core.Path.{◌≡◌, refl, sym, ap, ◌∙◌}
use mathlib.Core.List.{List, [], ◌∷◌, ◌++◌, append_assoc}
use lib.ListN.{length, take, drop, set, get_or, length-drop}
use lib.Seq.{drop-cons, drop-drop, take-suc, length-take-le, set_at}
use Rattle.runs.specs.Answers.{written}

module _ {A : Type 0} where
  -- what is left has a first: the place lies in the list
  pub drop-some : (rs : List A) (n : ℕ) (x : A) (more : List A) → drop n rs ≡ x ∷ more → n < length rs
  drop-some rs n x more e = omega (arith, ap length e, length-drop n rs)

  -- .. and a list with nothing left there ends before it
  pub drop-none : (rs : List A) (n : ℕ) → drop n rs ≡ [] → length rs ≤ n
  drop-none rs n e = omega (arith, ap length e, length-drop n rs)

  -- a walk over a list that takes k of it, and has come to place i, ends there at the last of the k
  pub all-taken : (i t k : ℕ) (rs : List A) → i + t ≡ k → k ≤ length rs → (0 < t → drop i rs ≡ []) → k ≡ i
  all-taken i zero k rs w l f = omega arith
  all-taken i (suc t) k rs w l f = omega (arith, drop-none rs i (f (omega arith)))

  -- .. and where as many are left of the list as of the k, none is left
  pub none-left : (i t k : ℕ) (rs : List A) → i + t ≡ k → i + length rs ≡ k → (0 < t → rs ≡ []) → rs ≡ []
  none-left i zero k [] w l f = refl
  none-left i zero k (x ∷ rs) w l f = absurd (omega arith)
  none-left i (suc t) k rs w l f = f (omega arith)

  pub drop-next : (rs : List A) (n : ℕ) (x : A) (more : List A) → drop n rs ≡ x ∷ more → more ≡ drop (n + 1) rs
  drop-next rs n x more e = sym (ap (drop 1) e) ∙ drop-drop 1 n rs

  -- one store more
  pub written-more : (rs ys : List A) (n : ℕ) (x : A) (more : List A) → n < length rs → n < length ys → drop n rs ≡ x ∷ more
      → set (written rs n ys) n x ≡ written rs (n + 1) ys
  written-more rs ys n x more a b e =
      let long : length (take n rs) ≡ n = length-take-le n rs (omega arith) in
      let q : get_or rs n x ∷ drop (suc n) rs ≡ x ∷ more = sym (drop-cons rs n x a) ∙ e in
      let here : get_or rs n x ≡ x = cc in
      ap (λ (l : List A). set (take n rs ++ l) n x) (drop-cons ys n x b)
      ∙ set_at (take n rs) (get_or ys n x) (drop (suc n) ys) x n long
      ∙ sym (append_assoc (take n rs) (x ∷ []) (drop (suc n) ys))
      ∙ ap (λ (r : A). (take n rs ++ (r ∷ [])) ++ drop (suc n) ys) (sym here)
      ∙ ap (λ (l : List A). l ++ drop (suc n) ys) (sym (take-suc rs n x a))
      ∙ ap (λ (k : ℕ). take k rs ++ drop k ys) (sym (add-one n))

-- Bytes of one class end at the first byte that is none of it.
use mathlib.Core.Path.{◌≡◌, refl}
use mathlib.Core.Bool.{Bool, true, false, cond}
use mathlib.Core.List.{List, ◌∷◌}
use Prim.Native.Nat.{ℕ, suc, ◌+◌, ◌-◌, ◌≤◌}
use native.Mathlib.Omega.{arith}
use borrow.Author.Tests.{ltb-true, ltb-false}
use lib.Dec.{ltb}
use lib.ListN.{length, take, drop, length-drop}
use Rattle.std.specs.Prelude.{not, Some, None}
use Rattle.std.specs.List.{position_or_len}
use Rattle.std.proofs.lemmas.List.Recursion.{is_position_or_len}
use Rattle.std.proofs.lemmas.List.Sums.{prefix_len-le-length}
use Rattle.std.proofs.lemmas.List.{take_all}
use Rattle.words.specs.Words.{passes, leading, other_of, Spans}
use Rattle.words.specs.declared.words.Class.{Class}

module _ (c : Class) where
  abbrev stops : ℕ → Bool
  stops b = not (passes c b)

  leading_cons : (x : ℕ) (xs : List ℕ) → leading c (x ∷ xs) ≡ cond (stops x) 0 (1 + leading c xs)
  unfolding leading
  leading_cons x xs = go (passes c x)
    where
      go : (t : Bool) → cond t (suc (leading c xs)) 0 ≡ cond (not t) 0 (1 + leading c xs)
      go true = omega arith
      go false = refl

  leading_first : (xs : List ℕ) → leading c xs ≡ position_or_len stops xs
  unfolding leading
  leading_first xs = is_position_or_len (leading c) stops refl leading_cons xs

  module _ (s : List ℕ) (from : ℕ) (h : from ≤ length s) where
    whole : take (length s - from) (drop from s) ≡ drop from s
    whole = take_all (length s - from) (drop from s) (omega (arith, length-drop from s))

    pub spans-some : (i : ℕ) → other_of c (take (length s - from) (drop from s)) ≡ Some i → Spans c s from (from + i)
    unfolding other_of
    spans-some i e = go (ltb n (length (drop from s))) refl (rw whole at e)
      where
        n : ℕ
        n = position_or_len stops (drop from s)

        go : (t : Bool) → ltb n (length (drop from s)) ≡ t → cond t (Some n) None ≡ Some i → Spans c s from (from + i)
        go true q r =
            let same : n ≡ i = cc in
            record {
              is = omega (arith, same, leading_first (drop from s));
              low = omega arith;
              high = omega (arith, same, ltb-true n (length (drop from s)) q, length-drop from s);
            }
        go false q r = cc

    pub spans-none : other_of c (take (length s - from) (drop from s)) ≡ None → Spans c s from (length s)
    unfolding other_of
    spans-none e = go (ltb n (length (drop from s))) refl (rw whole at e)
      where
        n : ℕ
        n = position_or_len stops (drop from s)

        go : (t : Bool) → ltb n (length (drop from s)) ≡ t → cond t (Some n) None ≡ None → Spans c s from (length s)
        go true q r = cc
        go false q r =
            record {
              is = omega (arith, leading_first (drop from s), prefix_len-le-length (λ (b : ℕ). not (stops b)) (drop from s), ltb-false n (length (drop from s)) q, length-drop from s);
              low = h;
              high = omega arith;
            }

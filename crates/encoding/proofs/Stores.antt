-- Numbers copied over a part of a list are a run of stores.
use Prim.Native.Nat.{ℕ, ◌+◌, ◌≤◌}
use mathlib.Core.Path.{◌≡◌, sym, ap, ap₂, ◌∙◌}
use mathlib.Core.List.{List, ◌++◌, append_assoc}
use lib.ListN.{length, take, drop}
use lib.Seq.{sets, sets-eq, drop-drop}
use borrow.Rule.Slice.PartMut.{put_mid}

pub copied : (a k : ℕ) (xs ys vs : List ℕ) → ys ≡ vs → k ≡ length vs → a + length vs ≤ length xs → put_mid a k xs ys ≡ sets xs a vs
copied a k xs ys vs e f h =
    ap₂ (λ (l r : List ℕ). take a xs ++ (l ++ r)) e (drop-drop k a xs ∙ ap (λ (n : ℕ). drop (a + n) xs) f)
    ∙ sym (append_assoc (take a xs) vs (drop (a + length vs) xs)) ∙ sym (sets-eq vs xs a h)

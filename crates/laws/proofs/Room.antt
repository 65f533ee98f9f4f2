-- How many numbers the moves take, one by one: at most 1 for a place, 16 for marks, 33 for a format or an insertion from a place.
use Prim.Native.Nat.{ℕ, zero, suc, ◌+◌, ◌-◌, ◌≤◌}
use mathlib.Core.Path.{◌≡◌, refl}
use mathlib.Core.Bool.{Bool, true, false, cond, ◌||◌}
use mathlib.Core.List.{List, [], ◌∷◌, map}
use native.Mathlib.Omega.{arith}
use lib.Dec.{leb}
use lib.ListN.{length}
use Rattle.sets.specs.Sets.{Slot, absent, is, Set, Env, none, keys, opened, former, completed}
use Rattle.rules.specs.Sheet.{What, Item, dead, kill, width, is_mark}
use Rattle.rules.specs.Places.{stay, over, Move, after, and_then, split, uses, place, agrees, settle, mark_for, marks, put_marks, forget, close}
use Rattle.rules.specs.Edits.{settled, closing, put_close, insert_with, key_in, remember, walks_on, format_walk, walking, format, kill_units}

pub place-next : (n : ℕ) (l : List Item) (m : ℕ) → (place n l m).next ≤ suc m
place-next n [] m = omega arith
place-next zero (i ∷ l) m = omega arith
place-next (suc n) (i ∷ l) m = go (leb (uses i) (suc n)) (place-next (suc n - uses i) l m)
  where
    go : (b : Bool) → (place (suc n - uses i) l m).next ≤ suc m → (cond b (over i (place (suc n - uses i) l m)) (split (suc n) i l m)).next ≤ suc m
    go true h = h
    go false h = omega arith

pub settle-next : (a : Set) (l : List Item) (m : ℕ) → (settle a l m).next ≡ m
settle-next a [] m = refl
settle-next a (i ∷ l) m = go (dead i || agrees a i.what) (settle-next a l m)
  where
    go : (b : Bool) → (settle a l m).next ≡ m → (cond b (over i (settle a l m)) (stay (i ∷ l) m)).next ≡ m
    go true h = h
    go false h = refl

pub marks-length : (ks : List ℕ) (a : Set) (m : ℕ) → length (marks ks a m) ≤ length ks
marks-length [] a m = omega arith
marks-length (k ∷ ks) a m = go (a k) (marks-length ks a)
  where
    go : (s : Slot) → ((m : ℕ) → length (marks ks a m) ≤ length ks) → length (mark_for k s (marks ks a) m) ≤ suc (length ks)
    go absent h = omega (arith, h m)
    go (is v) h = omega (arith, h (suc m))

sixteen : length keys ≡ 16
unfolding keys
sixteen = refl

pub put_marks-next : (a : Set) (l : List Item) (m : ℕ) → (put_marks a l m).next ≤ m + 16
put_marks-next a l m = omega (arith, marks-length keys a m, sixteen)

pub close-next : (r : Set) (l : List Item) (m : ℕ) → (close r l m).next ≤ m + 16
close-next r [] m = put_marks-next r [] m
close-next r (i ∷ l) m = go (dead i) (agrees r i.what) (close-next r l m) (close-next (forget i.what r) l m)
  where
    go : (b b' : Bool) → (close r l m).next ≤ m + 16 → (close (forget i.what r) l m).next ≤ m + 16
        → (cond b (over i (close r l m)) (cond b' (over i (close (forget i.what r) l m)) (put_marks r (i ∷ l) m))).next ≤ m + 16
    go true b' h h' = h
    go false true h h' = h'
    go false false h h' = put_marks-next r (i ∷ l) m

pub walk-next : (a : Set) (l : List Item) (m n : ℕ) (r : Set) → (format_walk a n r l m).next ≤ m + 17
walk-next a [] m n r = omega (arith, close-next r [] m)
walk-next a (i ∷ l) m n r = go (walks_on n r i) (dead i) (key_in a i.what) (leb (width i.what) n) (walk-next a l m)
  where
    go : (b b₁ b₂ b₃ : Bool) → ((n : ℕ) (r : Set) → (format_walk a n r l m).next ≤ m + 17)
        → (cond b (cond b₁ (over i (format_walk a n r l m)) (cond b₂ (over (kill i) (format_walk a n (remember a i.what r) l m))
        (cond b₃ (over i (format_walk a (n - width i.what) r l m)) (and_then none (split n i l m) (closing r))))) (close r (i ∷ l) m)).next ≤ m + 17
    go false b₁ b₂ b₃ h = omega (arith, close-next r (i ∷ l) m)
    go true true b₂ b₃ h = h n r
    go true false true b₃ h = h n (remember a i.what r)
    go true false false true h = h (n - width i.what) r
    go true false false false h = omega (arith, close-next r (split n i l m).right (suc m))

pub settled-next : (a : Set) (f : Set → Move) (n : ℕ) → ((r : Set) (e : Env) (l : List Item) (m : ℕ) → (f r e l m).next ≤ m + n) → (e : Env) (l : List Item) (m : ℕ) → (settled a f e l m).next ≤ m + 16 + n
settled-next a f n h e l m =
    omega (
      arith,
      settle-next a l m,
      put_marks-next (opened a (after e (settle a l m).left)) (settle a l m).right (settle a l m).next,
      h (former a (after e (settle a l m).left)) (after (after e (settle a l m).left) (marks keys (opened a (after e (settle a l m).left)) (settle a l m).next)) (settle a l m).right ((settle a l m).next + length (marks keys (opened a (after e (settle a l m).left)) (settle a l m).next)),
    )

pub insert-next : (w : What) (a : Set) (e : Env) (l : List Item) (m : ℕ) → (insert_with w a e l m).next ≤ m + 33
insert-next w a e l m = omega (arith, settled-next (completed a e) (put_close w) 17 (λ r e l m. omega (arith, close-next r l (m + 1))) e l m)

pub format-next : (a : Set) (n : ℕ) (e : Env) (l : List Item) (m : ℕ) → (format a n e l m).next ≤ m + 33
format-next a n e l m = omega (arith, settled-next a (walking a n) 17 (λ r e l m. walk-next a l m n r) e l m)

pub kill-next : (n : ℕ) (l : List Item) (m : ℕ) → (kill_units n l m).next ≤ suc m
kill-next n [] m = omega arith
kill-next zero (i ∷ l) m = omega arith
kill-next (suc n) (i ∷ l) m = go (dead i || is_mark i.what) (leb (width i.what) (suc n)) (λ n. kill-next n l m)
  where
    go : (b b' : Bool) → ((n : ℕ) → (kill_units n l m).next ≤ suc m)
        → (cond b (over i (kill_units (suc n) l m)) (cond b' (over (kill i) (kill_units (suc n - width i.what) l m)) (record { left = map kill (split (suc n) i l m).left; right = (split (suc n) i l m).right; next = suc m }))).next ≤ suc m
    go true b' h = h (suc n)
    go false true h = h (suc n - width i.what)
    go false false h = omega arith

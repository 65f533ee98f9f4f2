-- One step along the slots, the comparison of two contents, and a new entry as writes. Assumes nothing.
use Prim.Native.Nat.{ℕ, zero, suc, ◌+◌, ◌-◌, ◌*◌, ◌<◌, ◌≤◌, min}
use native.Mathlib.Numerals.{add-one}
use native.Mathlib.Omega.{arith}
use mathlib.Core.Path.{◌≡◌, refl, sym, ap, ◌∙◌}
use mathlib.Core.Bool.{Bool, true, false, cond, ◌&&◌}
use Rattle.std.specs.Str.{bytes_eq}
use mathlib.Core.List.{List, [], ◌∷◌, ◌++◌, append_assoc}
use lib.ListN.{length, get_or, take, drop, set, length-set}
use Rattle.std.proofs.Math.Seq.{drop-cons}
use Rattle.std.proofs.lemmas.Bool.{ne_eqb}
use lib.Seq.{sets-eq, drop-drop}
use borrow.Rule.Slice.PartMut.{put_mid}
use lib.Dec.{eqb}
use Rattle.entries.specs.Entry.{length_at, content_at, entry_at, entries, same_bytes, seek, among, put_at}
use Rattle.entries.specs.Order.{fits_at, all_fit, distinct}

-- ---- the slots that are left after i of n
module _ (m : List ℕ) (s n : ℕ) where
  pub rest-step : (i : ℕ) → i < n → entries m (s + i) (n - i) ≡ entry_at m (s + i) ∷ entries m (s + (i + 1)) (n - (i + 1))
  unfolding entries
  rest-step i h =
      let e : n - i ≡ suc (n - (i + 1)) = omega arith in
      let f : s + (i + 1) ≡ suc (s + i) = omega arith in
      rw (e, f)

  pub rest_end : (i : ℕ) → n ≤ i → entries m (s + i) (n - i) ≡ []
  unfolding entries
  rest_end i h = let e : n - i ≡ 0 = omega arith in rw e

  pub seek_hit : (e : List ℕ) (i : ℕ) → i < n → same_bytes (entry_at m (s + i)) e ≡ true → seek e (entries m (s + i) (n - i)) ≡ 0
  unfolding seek
  seek_hit e i h t = rw (rest-step i h, t)

  pub seek-miss : (e : List ℕ) (i : ℕ) → i < n → same_bytes (entry_at m (s + i)) e ≡ false
      → seek e (entries m (s + i) (n - i)) ≡ suc (seek e (entries m (s + (i + 1)) (n - (i + 1))))
  unfolding seek
  seek-miss e i h t = rw (rest-step i h, t)

  pub fit-step : (i : ℕ) → i < n → fits_at m (s + i) ≡ true → all_fit m (s + i) (n - i) ≡ all_fit m (s + (i + 1)) (n - (i + 1))
  unfolding all_fit
  fit-step i h t =
      let e : n - i ≡ suc (n - (i + 1)) = omega arith in
      let f : s + (i + 1) ≡ suc (s + i) = omega arith in
      rw (e, f, t)

  pub fit-fails : (i : ℕ) → i < n → fits_at m (s + i) ≡ false → all_fit m (s + i) (n - i) ≡ false
  unfolding all_fit
  fit-fails i h t = let e : n - i ≡ suc (n - (i + 1)) = omega arith in rw (e, t)

  pub fit-end : (i : ℕ) → n ≤ i → all_fit m (s + i) (n - i) ≡ true
  unfolding all_fit
  fit-end i h = let e : n - i ≡ 0 = omega arith in rw e

  pub next-same : (i : ℕ) → entries m (s + i + 1) (n - i - 1) ≡ entries m (s + (i + 1)) (n - (i + 1))
  next-same i =
      let e : n - i - 1 ≡ n - (i + 1) = omega arith in
      let f : s + i + 1 ≡ s + (i + 1) = omega arith in
      rw (e, f)

  pub distinct-step : (i : ℕ) → i < n → (t : Bool) → among (entry_at m (s + i)) (entries m (s + i + 1) (n - i - 1)) ≡ t
      → distinct (entries m (s + i) (n - i)) ≡ cond t false (distinct (entries m (s + (i + 1)) (n - (i + 1))))
  unfolding distinct
  distinct-step i h t e = rw (rest-step i h, ← next-same i, e)

-- the comparison of the contents is that of slices
pub same_is : (a b : List ℕ) → same_bytes a b ≡ bytes_eq a b
unfolding same_bytes
same_is [] [] = refl
same_is [] (y ∷ b) = refl
same_is (x ∷ a) [] = refl
same_is (x ∷ a) (y ∷ b) = go (eqb x y) (same_is a b)
  where
    go : (t : Bool) → same_bytes a b ≡ bytes_eq a b → cond t (same_bytes a b) false ≡ (t && bytes_eq a b)
    go true e = e
    go false e = refl

-- a content that starts with another byte is another: where a slot has none, it is shorter
pub other_start : (m : List ℕ) (s : ℕ) (bytes : List ℕ) → s * 34 + 2 < length m → 0 < length bytes → (get_or m (s * 34 + 2) 0 ≡ get_or bytes 0 0 → ⊥)
    → same_bytes (content_at m s) bytes ≡ false
unfolding same_bytes content_at
other_start m s [] within some other = absurd (omega arith)
other_start m s (b ∷ bytes) within some other =
    rw drop_from (go (min (length_at m s) 32))
  where
    drop_from : drop (s * 34 + 2) m ≡ get_or m (s * 34 + 2) 0 ∷ drop (suc (s * 34 + 2)) m
    drop_from = drop-cons m (s * 34 + 2) 0 within

    go : (n : ℕ) → same_bytes (take n (get_or m (s * 34 + 2) 0 ∷ drop (suc (s * 34 + 2)) m)) (b ∷ bytes) ≡ false
    go zero = refl
    go (suc n) = rw (ne_eqb (get_or m (s * 34 + 2) 0) b other)

pub length-entries : (m : List ℕ) (s n : ℕ) → length (entries m s n) ≡ n
unfolding entries
length-entries m s zero = refl
length-entries m s (suc n) = ap suc (length-entries m (suc s) n)

-- a new entry as three writes: the length, the kind, and the content over as many bytes
pub put_is : (m : List ℕ) (s k : ℕ) (c : List ℕ) → s * 34 + 2 + length c ≤ length m → (n : ℕ) → n ≡ length c → (new : List ℕ) → new ≡ c
    → put_mid (s * 34 + 2) n (set (set m (s * 34) (length c)) (s * 34 + 1) k) new ≡ put_at m s k c
unfolding put_at
put_is m s k c h n e new f =
    let low : s * 34 + 2 ≡ suc (suc (s * 34)) = omega arith in
    let head = set (set m (s * 34) (length c)) (s * 34 + 1) k in
    let room : s * 34 + 2 + length c ≤ length head = simp length-set h in
    rw (e, f)
    (
    sym (append_assoc (take (s * 34 + 2) head) c _)
    ∙ ap (λ (l : List ℕ). (take (s * 34 + 2) head ++ c) ++ l) (drop-drop (length c) (s * 34 + 2) head)
    ∙ sym (sets-eq c head (s * 34 + 2) room)
    ∙ rw (add-one, low) refl
    )

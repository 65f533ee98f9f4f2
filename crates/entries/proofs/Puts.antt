-- A new entry stands in its slot, and no other slot changes. Assumes nothing.
use Prim.Native.Nat.{ℕ, zero, suc, ◌+◌, ◌-◌, ◌*◌, ◌<◌, ◌≤◌, min}
use native.Mathlib.Nat.{add-zero}
use native.Mathlib.Omega.{arith}
use mathlib.Core.Path.{◌≡◌, refl, sym, ap, ap₂, ◌∙◌}
use mathlib.Core.Logic.{◌⊎◌, inl, inr, ⊎_elim}
use mathlib.Core.Bool.{Bool, true, false, cond}
use mathlib.Core.List.{List, [], ◌∷◌, ◌++◌, append_assoc}
use lib.ListN.{length, get_or, take, drop, set, get_or-append}
use lib.Seq.{sets, sets-eq, length-sets, get_or-set_other, drop-set-lt, drop-set-add, take-set-le, drop-append-add, take_at, get_or-append-add, length-take-le}
use Rattle.entries.specs.Entry.{length_at, kind_at, content_at, entry_at, entries, put_at}
use Rattle.entries.specs.Order.{fits_at, all_fit}

-- a part that lies before or behind what is written
set-part : (l : List ℕ) (i a s n : ℕ) → (i < s) ⊎ (s + n ≤ i) → take n (drop s (set l i a)) ≡ take n (drop s l)
set-part l i a s n (inl h) = rw (drop-set-lt s l i a h)
set-part l i a s n (inr h) =
    let e : i ≡ s + (i - s) = omega arith in
    ap (λ (j : ℕ). take n (drop s (set l j a))) e ∙ rw (drop-set-add s l (i - s) a, take-set-le n (drop s l) (i - s) a (omega arith))

pub sets-part : (l : List ℕ) (i : ℕ) (vs : List ℕ) (s n : ℕ) → (i + length vs ≤ s) ⊎ (s + n ≤ i) → take n (drop s (sets l i vs)) ≡ take n (drop s l)
sets-part l i [] s n h = refl
sets-part l i (v ∷ vs) s n (inl h) = sets-part (set l i v) (suc i) vs s n (inl (omega arith)) ∙ set-part l i v s n (inl (omega arith))
sets-part l i (v ∷ vs) s n (inr h) = sets-part (set l i v) (suc i) vs s n (inr (omega arith)) ∙ set-part l i v s n (inr h)

pub sets-get_or : (l : List ℕ) (i : ℕ) (vs : List ℕ) (j : ℕ) → (i + length vs ≤ j) ⊎ (j < i) → get_or (sets l i vs) j 0 ≡ get_or l j 0
sets-get_or l i [] j h = refl
sets-get_or l i (v ∷ vs) j (inl h) = sets-get_or (set l i v) (suc i) vs j (inl (omega arith)) ∙ get_or-set_other l i j v 0 (λ e. omega arith)
sets-get_or l i (v ∷ vs) j (inr h) = sets-get_or (set l i v) (suc i) vs j (inr (omega arith)) ∙ get_or-set_other l i j v 0 (λ e. omega arith)

module _ (m : List ℕ) (t k : ℕ) (c : List ℕ) (full : length m ≡ 9214) (t-in : t < 271) (short : length c ≤ 32) where
  pub put-length : length (put_at m t k c) ≡ 9214
  unfolding put_at
  put-length = length-sets m (t * 34) (length c ∷ k ∷ c) ∙ full

  whole : put_at m t k c ≡ take (t * 34) m ++ (length c ∷ k ∷ (c ++ drop (t * 34 + suc (suc (length c))) m))
  unfolding put_at
  whole = sets-eq (length c ∷ k ∷ c) m (t * 34) (omega arith) ∙ rw append_assoc

  front : length (take (t * 34) m) ≡ t * 34
  front = length-take-le (t * 34) m (omega arith)

  at : (j : ℕ) → get_or (put_at m t k c) (t * 34 + j) 0 ≡ get_or (length c ∷ k ∷ (c ++ drop (t * 34 + suc (suc (length c))) m)) j 0
  at j =
      ap (λ (l : List ℕ). get_or l (t * 34 + j) 0) whole
      ∙ ap (λ (n : ℕ). get_or (take (t * 34) m ++ (length c ∷ k ∷ (c ++ drop (t * 34 + suc (suc (length c))) m))) (n + j) 0) (sym front)
      ∙ get_or-append-add (take (t * 34) m) _ j 0

  pub put-size : length_at (put_at m t k c) t ≡ length c
  put-size = ap (λ (n : ℕ). get_or (put_at m t k c) n 0) (sym (add-zero (t * 34))) ∙ at 0

  pub put-kind : kind_at (put_at m t k c) t ≡ k
  put-kind = at 1

  pub put-content : content_at (put_at m t k c) t ≡ c
  unfolding content_at
  put-content =
      let rest = c ++ drop (t * 34 + suc (suc (length c))) m in
      let behind : drop (t * 34 + 2) (put_at m t k c) ≡ rest =
      ap (drop (t * 34 + 2)) whole
      ∙ ap (λ (n : ℕ). drop (n + 2) (take (t * 34) m ++ (length c ∷ k ∷ rest))) (sym front)
      ∙ drop-append-add (take (t * 34) m) (length c ∷ k ∷ rest) 2 in
      let size : min (length_at (put_at m t k c) t) 32 ≡ length c = omega (arith, put-size) in
      rw (size, behind) (take_at c _ (length c) refl)

  pub put-entry : entry_at (put_at m t k c) t ≡ k ∷ c
  unfolding entry_at
  put-entry = rw (put-kind, put-content)

  pub put_first : 0 < length c → get_or (put_at m t k c) (t * 34 + 2) 0 ≡ get_or c 0 0
  put_first h = at 2 ∙ get_or-append c (drop (t * 34 + suc (suc (length c))) m) 0 0 h

  -- ---- another slot
  module _ (s : ℕ) (away : (t < s) ⊎ (s < t)) where
    other : (j : ℕ) → j < 34 → get_or (put_at m t k c) (s * 34 + j) 0 ≡ get_or m (s * 34 + j) 0
    unfolding put_at
    other j h = sets-get_or m (t * 34) (length c ∷ k ∷ c) (s * 34 + j) (⊎_elim (λ l. inl (omega arith)) (λ l. inr (omega arith)) away)

    other-size : length_at (put_at m t k c) s ≡ length_at m s
    other-size = ap (λ (n : ℕ). get_or (put_at m t k c) n 0) (sym (add-zero (s * 34))) ∙ other 0 (omega arith) ∙ ap (λ (n : ℕ). get_or m n 0) (add-zero (s * 34))

    other-part : (n : ℕ) → n ≤ 32 → take n (drop (s * 34 + 2) (put_at m t k c)) ≡ take n (drop (s * 34 + 2) m)
    unfolding put_at
    other-part n h = sets-part m (t * 34) (length c ∷ k ∷ c) (s * 34 + 2) n (⊎_elim (λ l. inl (omega arith)) (λ l. inr (omega arith)) away)

    pub other-content : content_at (put_at m t k c) s ≡ content_at m s
    unfolding content_at
    other-content =
        ap (λ (n : ℕ). take (min n 32) (drop (s * 34 + 2) (put_at m t k c))) other-size
        ∙ other-part (min (length_at m s) 32) (omega arith)

    pub other-kind : kind_at (put_at m t k c) s ≡ kind_at m s
    other-kind = other 1 (omega arith)

    pub other-entry : entry_at (put_at m t k c) s ≡ entry_at m s
    unfolding entry_at
    other-entry = rw (other-kind, other-content)

    pub other_fits : fits_at (put_at m t k c) s ≡ fits_at m s
    unfolding fits_at
    other_fits = rw (other-size, other-kind, other 2 (omega arith))

  -- ---- a run of other slots
  pub put_entries : (s n : ℕ) → (t < s) ⊎ (s + n ≤ t) → entries (put_at m t k c) s n ≡ entries m s n
  unfolding entries
  put_entries s zero h = refl
  put_entries s (suc n) (inl h) = ap₂ (λ (x : List ℕ) (xs : List (List ℕ)). x ∷ xs) (other-entry s (inl h)) (put_entries (suc s) n (inl (omega arith)))
  put_entries s (suc n) (inr h) = ap₂ (λ (x : List ℕ) (xs : List (List ℕ)). x ∷ xs) (other-entry s (inr (omega arith))) (put_entries (suc s) n (inr (omega arith)))

  pub put_fit : (s n : ℕ) → (t < s) ⊎ (s + n ≤ t) → all_fit (put_at m t k c) s n ≡ all_fit m s n
  unfolding all_fit
  put_fit s zero h = refl
  put_fit s (suc n) (inl h) = rw (other_fits s (inl h), put_fit (suc s) n (inl (omega arith)))
  put_fit s (suc n) (inr h) = rw (other_fits s (inr (omega arith)), put_fit (suc s) n (inr (omega arith)))

-- ---- one slot more
pub entries-more : (m : List ℕ) (s n : ℕ) → entries m s (n + 1) ≡ entries m s n ++ entry_at m (s + n) ∷ []
unfolding entries
entries-more m s zero = rw add-zero
entries-more m s (suc n) =
    let e : suc n + 1 ≡ suc (n + 1) = omega arith in
    let f : s + suc n ≡ suc s + n = omega arith in
    rw (e, f, entries-more m (suc s) n)

pub fit-more : (m : List ℕ) (s n : ℕ) → all_fit m s n ≡ true → fits_at m (s + n) ≡ true → all_fit m s (n + 1) ≡ true
unfolding all_fit
fit-more m s zero h f = rw (sym (ap (fits_at m) (add-zero s)) ∙ f)
fit-more m s (suc n) h f =
    let e : suc n + 1 ≡ suc (n + 1) = omega arith in
    let g : s + suc n ≡ suc s + n = omega arith in
    rw e (go (fits_at m s) h (λ p. fit-more m (suc s) n p (rw g at f)))
  where
    go : (t : Bool) → cond t (all_fit m (suc s) n) false ≡ true → (all_fit m (suc s) n ≡ true → all_fit m (suc s) (n + 1) ≡ true)
        → cond t (all_fit m (suc s) (n + 1)) false ≡ true
    go true p ih = ih p
    go false p ih = p

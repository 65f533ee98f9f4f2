-- The test for a sound sheet: its parts, and the ways through it that a walk takes. Assumes nothing.
use Prim.Native.Nat.{ℕ, zero, suc, ◌+◌, ◌-◌, ◌/◌, ◌<◌, ◌≤◌}
use native.Mathlib.Nat.{zero-add, add-zero, add_assoc}
use native.Mathlib.Omega.{arith}
use mathlib.Core.Path.{◌≡◌, refl, sym, ap, ◌∙◌}
use mathlib.Core.Bool.{Bool, true, false, ◌&&◌}
use mathlib.Core.List.{List, ◌∷◌}
use lib.ListN.{length, get_or, take, drop}
use lib.Dec.{eqb, ltb, leb}
use borrow.Author.Tests.{eq-eqb, ne_eqb, lt-ltb, le-leb, lt-leb, eqb-true, ltb-true, leb-true}
use Rattle.units.specs.Surrogates.{paired}
use Rattle.units.proofs.Halves.{both, and_left, and_right, and_no-left, and_no-right}
use Rattle.rules.specs.Sheet.{What, text, embed, mark, Item}
use Rattle.rules.specs.Sound.{honest, held}
use Rattle.layout.specs.declared.head.Head.{Head}
use Rattle.layout.specs.Word.{in_range}
use Rattle.layout.specs.Chain.{END, item_from, item_at, next_at, chain, walks}
use Rattle.layout.specs.Memory.{list_of, len_of, what_ok, word_ok, each_ok, sound_of, Sound}
use Rattle.layout.proofs.Links.{walks-step, walks_out, chain-step}

-- ---- one item
module _ (u : List ℕ) (used s n : ℕ) where
  pub piece-empty : n ≡ 0 → what_ok u used (text s n) ≡ false
  unfolding what_ok
  piece-empty e = rw e

  pub piece-out : used < s + n → what_ok u used (text s n) ≡ false
  unfolding what_ok
  piece-out l = and_no-right (ltb 0 n) _ (rw (lt-leb (s + n) used l))

  pub piece_in : 0 < n → s + n ≤ used → what_ok u used (text s n) ≡ paired (take n (drop s u))
  unfolding what_ok
  piece_in z l = rw (lt-ltb 0 n z, le-leb (s + n) used l)

  pub piece-parts : what_ok u used (text s n) ≡ true → (0 < n) × (s + n ≤ used) × (paired (take n (drop s u)) ≡ true)
  unfolding what_ok
  piece-parts e =
      let r = and_right (ltb 0 n) _ e in
      (ltb-true 0 n (and_left (ltb 0 n) _ e), leb-true (s + n) used (and_left (leb (s + n) used) _ r), and_right (leb (s + n) used) _ r)

pub mark-parts : (u : List ℕ) (used k v : ℕ) → what_ok u used (mark k v) ≡ true → (k < 16) × (v < 256)
unfolding what_ok
mark-parts u used k v e = (ltb-true k 16 (and_left (ltb k 16) _ e), ltb-true v 256 (and_right (ltb k 16) _ e))

-- ---- one word
module _ (u : List ℕ) (used w : ℕ) where
  pub word_on : in_range w ≡ true → honest (item_from 0 (w / 4096)).flags ≡ true → word_ok u used w ≡ what_ok u used (item_from 0 (w / 4096)).what
  unfolding word_ok
  word_on e f = ap (λ (b : Bool). b && (honest (item_from 0 (w / 4096)).flags && what_ok u used (item_from 0 (w / 4096)).what)) e ∙ ap (λ (b : Bool). b && what_ok u used (item_from 0 (w / 4096)).what) f

  pub word-parts : word_ok u used w ≡ true → (in_range w ≡ true) × (honest (item_from 0 (w / 4096)).flags ≡ true) × (what_ok u used (item_from 0 (w / 4096)).what ≡ true)
  unfolding word_ok
  word-parts e =
      let r = and_right (in_range w) _ e in
      (and_left (in_range w) _ e, and_left (honest (item_from 0 (w / 4096)).flags) _ r, and_right (honest (item_from 0 (w / 4096)).flags) _ r)

-- ---- the whole test
module _ (h : Head) (m u : List ℕ) where
  pub sound-parts : sound_of h m u ≡ true → Sound h m u
  unfolding sound_of
  sound-parts e =
      let e₁ = and_right (eqb (length m) 2048) _ e in
      let e₂ = and_right (eqb (length u) 16384) _ e₁ in
      let e₃ = and_right (leb h.items 2048) _ e₂ in
      let e₄ = and_right (leb h.units 16384) _ e₃ in
      let e₅ = and_right (walks h.items h.items m h.first) _ e₄ in
      let each = each_ok (word_ok u h.units) h.items m h.first in
      record {
        words = eqb-true (length m) 2048 (and_left (eqb (length m) 2048) _ e);
        room = eqb-true (length u) 16384 (and_left (eqb (length u) 16384) _ e₁);
        items = leb-true h.items 2048 (and_left (leb h.items 2048) _ e₂);
        used = leb-true h.units 16384 (and_left (leb h.units 16384) _ e₃);
        walk = and_left (walks h.items h.items m h.first) _ e₄;
        each = and_left each _ e₅;
        whole = eqb-true (held (list_of h m)) h.units (and_right each _ e₅);
      }

  pub sound-whole : Sound h m u → sound_of h m u ≡ true
  unfolding sound_of
  sound-whole s =
      both (eqb (length m) 2048) _ (eq-eqb (length m) 2048 s.words)
      (both (eqb (length u) 16384) _ (eq-eqb (length u) 16384 s.room)
      (both (leb h.items 2048) _ (le-leb h.items 2048 s.items)
      (both (leb h.units 16384) _ (le-leb h.units 16384 s.used)
      (both (walks h.items h.items m h.first) _ s.walk
      (both (each_ok (word_ok u h.units) h.items m h.first) _ s.each (eq-eqb (held (list_of h m)) h.units s.whole))))))

-- ---- the walk
-- What is left of the test k steps before the end, at s, when the texts so far have `sum` units.
abbrev pub rest_ok : ℕ → ℕ → List ℕ → List ℕ → ℕ → ℕ → ℕ → Bool
rest_ok b used m u k s sum = walks b k m s && (each_ok (word_ok u used) k m s && eqb (sum + held (chain k m s)) used)

pub held_cons : (i : Item) (l : List Item) → held (i ∷ l) ≡ len_of i.what + held l
held_cons i l = go i.what
  where
    go : (w : What) → elim w [ text s n ↦ n | embed e ↦ 0 | mark k v ↦ 0 ] + held l ≡ len_of w + held l
    go (text s n) = refl
    go (embed e) = refl
    go (mark k v) = refl

pub each_step : (ok : ℕ → Bool) (k : ℕ) (m : List ℕ) (s : ℕ) → 0 < k → each_ok ok k m s ≡ ok (get_or m s 0) && each_ok ok (k - 1) m (next_at m s)
unfolding each_ok
each_step ok zero m s h = absurd (omega arith)
each_step ok (suc k) m s h =
    let e : suc k - 1 ≡ k = omega arith in
    rw e

module _ (h : Head) (m u : List ℕ) where
  pub sound-short : (length m ≡ 2048 → ⊥) → sound_of h m u ≡ false
  unfolding sound_of
  sound-short p = and_no-left _ _ (ne_eqb (length m) 2048 p)

  pub sound-narrow : (length u ≡ 16384 → ⊥) → sound_of h m u ≡ false
  unfolding sound_of
  sound-narrow p = and_no-right (eqb (length m) 2048) _ (and_no-left _ _ (ne_eqb (length u) 16384 p))

  pub sound-many : 2048 < h.items → sound_of h m u ≡ false
  unfolding sound_of
  sound-many p = and_no-right (eqb (length m) 2048) _ (and_no-right (eqb (length u) 16384) _ (and_no-left _ _ (lt-leb h.items 2048 p)))

  pub sound-long : 16384 < h.units → sound_of h m u ≡ false
  unfolding sound_of
  sound-long p =
      and_no-right (eqb (length m) 2048) _ (and_no-right (eqb (length u) 16384) _ (and_no-right (leb h.items 2048) _ (and_no-left _ _ (lt-leb h.units 16384 p))))

  pub sound-rest : length m ≡ 2048 → length u ≡ 16384 → h.items ≤ 2048 → h.units ≤ 16384 → sound_of h m u ≡ rest_ok h.items h.units m u h.items h.first 0
  unfolding sound_of
  sound-rest a b c d = rw (eq-eqb (length m) 2048 a, eq-eqb (length u) 16384 b, le-leb h.items 2048 c, le-leb h.units 16384 d, zero-add)

module _ (b used : ℕ) (m u : List ℕ) (k s sum : ℕ) where
  pub rest_out : 0 < k → b ≤ s → rest_ok b used m u k s sum ≡ false
  rest_out z l = and_no-left _ _ (walks_out b k m s z l)

  pub rest-bad : 0 < k → word_ok u used (get_or m s 0) ≡ false → rest_ok b used m u k s sum ≡ false
  rest-bad z e = and_no-right (walks b k m s) _ (and_no-left _ _ (each_step (word_ok u used) k m s z ∙ and_no-left _ _ e))

  sum_is : 0 < k → sum + held (chain k m s) ≡ (sum + len_of (item_at m s).what) + held (chain (k - 1) m (next_at m s))
  sum_is z = ap (λ (l : List Item). sum + held l) (chain-step k m s z) ∙ ap (λ (x : ℕ). sum + x) (held_cons (item_at m s) (chain (k - 1) m (next_at m s))) ∙ sym (add_assoc sum (len_of (item_at m s).what) (held (chain (k - 1) m (next_at m s))))

  pub rest_over : 0 < k → used < sum + len_of (item_at m s).what → rest_ok b used m u k s sum ≡ false
  rest_over z l =
      let d : sum + held (chain k m s) ≡ used → ⊥ = (λ (q : sum + held (chain k m s) ≡ used). omega (arith, sum_is z)) in
      and_no-right (walks b k m s) _ (and_no-right (each_ok (word_ok u used) k m s) _ (ne_eqb (sum + held (chain k m s)) used d))

  pub rest-step : 0 < k → s < b → word_ok u used (get_or m s 0) ≡ true → rest_ok b used m u k s sum ≡ rest_ok b used m u (k - 1) (next_at m s) (sum + len_of (item_at m s).what)
  rest-step z l e = rw (walks-step b k m s z l, each_step (word_ok u used) k m s z, e, sum_is z)

  pub rest_end : k ≤ 0 → rest_ok b used m u k s sum ≡ eqb s END && eqb sum used
  unfolding each_ok chain walks
  rest_end z =
      let e : k ≡ 0 = omega arith in
      rw (e, add-zero)

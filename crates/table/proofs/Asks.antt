-- An asking, case by case. Assumes nothing.
use Prim.Native.Nat.{ℕ, ◌<◌, ◌≤◌}
use native.Mathlib.Omega.{arith}
use mathlib.Core.Path.{◌≡◌, refl, sym, ◌∙◌}
use mathlib.Core.Bool.{Bool, true, false, cond}
use mathlib.Core.List.{List, ◌∷◌}
use lib.ListN.{length}
use lib.Dec.{eqb, ltb}
use borrow.Author.Tests.{ltb-true, ltb-false, lt-ltb, le-ltb}
use Rattle.table.specs.declared.TableHead.{TableHead}
use Rattle.table.specs.declared.Shelf.{Shelf}
use Rattle.std.specs.Prelude.{Option, Some, None, Result, Ok, Err}
use Rattle.refusal.specs.declared.Refusal.{Refusal}
use Rattle.refusal.specs.declared.Refusal.TheVariants.{Short, Pair, Units, Room, Full, Long, Many, Out, Broken, Key}
use Rattle.refusal.specs.Numbers.{number_of}
use Rattle.entries.specs.Entry.{entries, seek}
use Rattle.table.specs.Sound.{sound_of}
use Rattle.table.specs.Ask.{shelf_of, too_long, asking_of, outcome, ask_of}
use Rattle.entries.proofs.Entries.{length-entries}
use Rattle.entries.proofs.Seeks.{seek-le}

module _ (most : ℕ) (m : List ℕ) (s n k : ℕ) (c : List ℕ) where
  pub is-long : too_long k (length c) ≡ true → asking_of most (entries m s n) k c ≡ Err Long
  unfolding asking_of
  is-long t = rw t

  module _ (t : too_long k (length c) ≡ false) (i : ℕ) (e : i ≡ seek (k ∷ c) (entries m s n)) where
    pub is_known : i < n → asking_of most (entries m s n) k c ≡ Ok (Some i)
    unfolding asking_of
    is_known l = rw (t, ← e, length-entries, lt-ltb i n l)

    pub is-fresh : n ≤ i → n < most → asking_of most (entries m s n) k c ≡ Ok None
    unfolding asking_of
    is-fresh l f = rw (t, ← e, length-entries, le-ltb i n l, lt-ltb n most f)

    pub is-full : n ≤ i → most ≤ n → asking_of most (entries m s n) k c ≡ Err Full
    unfolding asking_of
    is-full l f = rw (t, ← e, length-entries, le-ltb i n l, le-ltb n most f)

-- what each case says of what was asked
pub record New (most : ℕ) (m : List ℕ) (s n k : ℕ) (c : List ℕ) : Type 0 where
  pub fine : too_long k (length c) ≡ false
  pub short : length c ≤ 32
  pub new : seek (k ∷ c) (entries m s n) ≡ n
  pub left : n < most

pub record There (m : List ℕ) (s n k : ℕ) (c : List ℕ) (i : ℕ) : Type 0 where
  pub fine : too_long k (length c) ≡ false
  pub below : i < n
  pub there : seek (k ∷ c) (entries m s n) ≡ i

pub refused-number : (r : Refusal) → 0 < number_of r
refused-number Short = omega arith
refused-number Pair = omega arith
refused-number Units = omega arith
refused-number Room = omega arith
refused-number Full = omega arith
refused-number Long = omega arith
refused-number Many = omega arith
refused-number Out = omega arith
refused-number Broken = omega arith
refused-number Key = omega arith

pub fine_short : (k n : ℕ) → too_long k n ≡ false → n ≤ 32
unfolding too_long
fine_short k n e = go (ltb 32 n) refl e
  where
    go : (t : Bool) → ltb 32 n ≡ t → cond t true (cond (eqb k 0) (eqb n 0) false) ≡ false → n ≤ 32
    go true f p = absurd (let z : ◌≡◌ {A = ℕ} 0 1 = cc in omega arith)
    go false f p = ltb-false 32 n f

module _ (most : ℕ) (m : List ℕ) (s n k : ℕ) (c : List ℕ) where
  pub known_facts : (a : Result (Option ℕ) Refusal) → a ≡ asking_of most (entries m s n) k c → (i : ℕ) → a ≡ Ok (Some i) → There m s n k c i
  unfolding asking_of
  known_facts a e i p = go (too_long k (length c)) refl (ltb (seek (k ∷ c) (entries m s n)) (length (entries m s n))) refl (ltb (length (entries m s n)) most) (sym e ∙ p)
    where
      go : (t : Bool) → too_long k (length c) ≡ t → (u : Bool) → ltb (seek (k ∷ c) (entries m s n)) (length (entries m s n)) ≡ u → (v : Bool)
          → cond t (Err Long) (cond u (Ok (Some (seek (k ∷ c) (entries m s n)))) (cond v (Ok None) (Err Full))) ≡ Ok (Some i) → There m s n k c i
      go true g u f v q = absurd (let z : ◌≡◌ {A = ℕ} 0 1 = cc in omega arith)
      go false g true f v q =
          let is : seek (k ∷ c) (entries m s n) ≡ i = cc in
          record {
            fine = g;
            below = omega (arith, ltb-true (seek (k ∷ c) (entries m s n)) (length (entries m s n)) f, length-entries m s n);
            there = is;
          }
      go false g false f true q = absurd (let z : ◌≡◌ {A = ℕ} 0 1 = cc in omega arith)
      go false g false f false q = absurd (let z : ◌≡◌ {A = ℕ} 0 1 = cc in omega arith)

  -- a new entry: not too long, not there yet, and a number is left
  pub fresh-facts : (a : Result (Option ℕ) Refusal) → a ≡ asking_of most (entries m s n) k c → a ≡ Ok None → New most m s n k c
  unfolding asking_of
  fresh-facts a e p =
      go (too_long k (length c)) refl (ltb (seek (k ∷ c) (entries m s n)) (length (entries m s n))) refl
      (ltb (length (entries m s n)) most) refl (sym e ∙ p)
    where
      go : (t : Bool) → too_long k (length c) ≡ t → (u : Bool) → ltb (seek (k ∷ c) (entries m s n)) (length (entries m s n)) ≡ u
          → (v : Bool) → ltb (length (entries m s n)) most ≡ v
          → cond t (Err Long) (cond u (Ok (Some (seek (k ∷ c) (entries m s n)))) (cond v (Ok None) (Err Full))) ≡ Ok None
          → New most m s n k c
      go true f u w v g q = absurd (let z : ◌≡◌ {A = ℕ} 0 1 = cc in omega arith)
      go false f true w v g q = absurd (let z : ◌≡◌ {A = ℕ} 0 1 = cc in omega arith)
      go false f false w true g q =
          let past = ltb-false (seek (k ∷ c) (entries m s n)) (length (entries m s n)) w in
          let few = ltb-true (length (entries m s n)) most g in
          record {
            fine = f;
            short = fine_short k (length c) f;
            new = omega (arith, seek-le (k ∷ c) (entries m s n), length-entries m s n);
            left = omega (arith, length-entries m s n);
          }
      go false f false w false g q = absurd (let z : ◌≡◌ {A = ℕ} 0 1 = cc in omega arith)

pub ask_case : (h : TableHead) (m : List ℕ) (k : ℕ) (c : List ℕ) → sound_of h m ≡ true → (s : Shelf) → s ≡ shelf_of h k
    → (a : Result (Option ℕ) Refusal) → a ≡ asking_of s.most (entries m s.from s.count) k c → ask_of h m k c ≡ outcome h s m k c a
unfolding ask_of
ask_case h m k c p s e a f = rw (p, f, e)

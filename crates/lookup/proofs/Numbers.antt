-- Numbers that are given out, and what lies in their slots. Assumes nothing.
use Prim.Native.Nat.{ℕ, zero, suc, ◌+◌, ◌-◌, ◌*◌, ◌<◌, ◌≤◌}
use native.Mathlib.Nat.{add-zero}
use native.Mathlib.Omega.{arith}
use mathlib.Core.Path.{◌≡◌, refl, sym}
use mathlib.Core.Logic.{◌⊎◌, inl, inr}
use mathlib.Core.Bool.{Bool, true, false, cond}
use mathlib.Core.List.{List, [], ◌∷◌}
use lib.ListN.{length, get_or, length-take, length-drop}
use lib.Dec.{eqb, leb}
use borrow.Author.Tests.{ne_eqb, le-leb, eqb-true, leb-true, ltb-true, le-ltb}
use Rattle.table.specs.declared.TableHead.{TableHead}
use Rattle.entries.specs.Entry.{length_at, kind_at, content_at}
use Rattle.entries.specs.Order.{fits, fits_at, all_fit}
use Rattle.table.specs.Sound.{sound_of}
use Rattle.std.specs.Prelude.{Some, None}
use Rattle.lookup.specs.declared.Shown.TheVariants.{Bool as IsBool, Int as IsInt, String as IsString}
use Rattle.entries.specs.Number.{number_of}
use Rattle.std.specs.Int.{from_le_bytes}
use Rattle.entries.specs.declared.kinds.Kind.{Kind}
use Rattle.entries.specs.declared.kinds.Kind.TheVariants.{Name, Bool as KindBool, Int as KindInt, String as KindString}
use Rattle.entries.specs.Kind.{byte_of, kind_in}
use Rattle.entries.proofs.Bytes.{number_is}
use mir.Syntax.{w64}
use mir.Val.{to_z}
use Rattle.lookup.specs.Show.{given_name, given_value, value_of, bytes_of, case_of, value_at, shown_of, string_of}
use Rattle.table.proofs.Tables.{both, Sound, sound-parts}

pub record Given (h : TableHead) (m : List ℕ) (v : ℕ) : Type 0 where
  pub sound : Sound h m
  pub low : 0 < v
  pub high : v ≤ h.values

pub given-value : (h : TableHead) (m : List ℕ) (v : ℕ) → given_value h m v ≡ true → Given h m v
unfolding given_value
given-value h m v e =
    let p = both (sound_of h m) _ e in
    let s = sound-parts h m p.0 in
    go (eqb v 0) refl s p.1
  where
    go : (b : Bool) → eqb v 0 ≡ b → Sound h m → cond b false (leb v h.values) ≡ true → Given h m v
    go true t s q = absurd (let z : ◌≡◌ {A = ℕ} 0 1 = cc in omega arith)
    go false t s q = record { sound = s; low = pos_of v t; high = leb-true v h.values q }
      where
        pos_of : (n : ℕ) → eqb n 0 ≡ false → 0 < n
        pos_of zero f = absurd (let z : ◌≡◌ {A = ℕ} 0 1 = cc in omega arith)
        pos_of (suc n) f = omega arith

pub given-name : (h : TableHead) (m : List ℕ) (n : ℕ) → given_name h m n ≡ true → Sound h m × (n < h.names)
unfolding given_name
given-name h m n e =
    let p = both (sound_of h m) _ e in
    (sound-parts h m p.0, ltb-true n h.names p.1)

-- ---- one slot of those that are in order
pub fits-at : (m : List ℕ) (s n i : ℕ) → all_fit m s n ≡ true → i < n → fits_at m (s + i) ≡ true
unfolding all_fit
fits-at m s zero i e h = absurd (omega arith)
fits-at m s (suc n) zero e h = rw add-zero (both (fits_at m s) _ e).0
fits-at m s (suc n) (suc i) e h =
    let f : s + suc i ≡ suc s + i = omega arith in
    rw f (fits-at m (suc s) n i (both (fits_at m s) _ e).1 (omega arith))

-- kind, length and first byte of a value in a slot that is in order
abbrev pub Allowed : ℕ → ℕ → ℕ → Type 0
Allowed k n b = ((k ≡ 1) × ((n ≡ 1) × (b ≤ 1))) ⊎ (((k ≡ 2) × (n ≡ 8)) ⊎ ((k ≡ 3) × (n ≤ 32)))

pub allowed : (k n b : ℕ) → eqb k 0 ≡ false → fits k n b ≡ true → Allowed k n b
unfolding fits
allowed k n b z f = is-bool (eqb k 1) refl (rw z at f)
  where
    is-string : (t : Bool) → eqb k 3 ≡ t → cond t (leb n 32) false ≡ true → Allowed k n b
    is-string true e g = inr (inr (eqb-true k 3 e, leb-true n 32 g))
    is-string false e g = absurd (let y : ◌≡◌ {A = ℕ} 0 1 = cc in omega arith)

    is-int : (t : Bool) → eqb k 2 ≡ t → cond t (eqb n 8) (cond (eqb k 3) (leb n 32) false) ≡ true → Allowed k n b
    is-int true e g = inr (inl (eqb-true k 2 e, eqb-true n 8 g))
    is-int false e g = is-string (eqb k 3) refl g

    is-bool : (t : Bool) → eqb k 1 ≡ t → cond t (cond (eqb n 1) (leb b 1) false) (cond (eqb k 2) (eqb n 8) (cond (eqb k 3) (leb n 32) false)) ≡ true → Allowed k n b
    is-bool true e g = let p = both (eqb n 1) _ g in inl (eqb-true k 1 e, (eqb-true n 1 p.0, leb-true b 1 p.1))
    is-bool false e g = is-int (eqb k 2) refl g

pub allowed_short : {k n b : ℕ} → Allowed k n b → n ≤ 32
allowed_short (inl (ek, (en, eb))) = omega arith
allowed_short (inr (inl (ek, en))) = omega arith
allowed_short (inr (inr (ek, en))) = en

module _ (m : List ℕ) (s : ℕ) where
  pub content-whole : length m ≡ 9214 → s < 271 → length_at m s ≤ 32 → length (content_at m s) ≡ length_at m s
  unfolding content_at
  content-whole e h l = rw (length-take, length-drop) (omega arith)

  pub allowed_at : 16 ≤ s → fits_at m s ≡ true → Allowed (kind_at m s) (length_at m s) (get_or m (s * 34 + 2) 0)
  unfolding fits_at
  allowed_at h f = go (eqb (kind_at m s) 0) refl (rw (le-ltb s 16 h) at f)
    where
      go : (t : Bool) → eqb (kind_at m s) 0 ≡ t → cond t false (fits (kind_at m s) (length_at m s) (get_or m (s * 34 + 2) 0)) ≡ true
          → Allowed (kind_at m s) (length_at m s) (get_or m (s * 34 + 2) 0)
      go true e g = absurd (let y : ◌≡◌ {A = ℕ} 0 1 = cc in omega arith)
      go false e g = allowed (kind_at m s) (length_at m s) (get_or m (s * 34 + 2) 0) e g

-- kind and content of a value that is given out
pub given_allowed : {h : TableHead} {m : List ℕ} {v : ℕ} → Given h m v
    → (15 + v < 271) × Allowed (kind_at m (15 + v)) (length (content_at m (15 + v))) (get_or m ((15 + v) * 34 + 2) 0)
given_allowed {h} {m} {v} g =
    let low = g.low in
    let high = g.high in
    let few = g.sound.of_values.few in
    let f : 16 + (v - 1) ≡ 15 + v = omega arith in
    let t = fits-at m 16 h.values (v - 1) g.sound.of_values.fit (omega arith) in
    let a = allowed_at m (15 + v) (omega arith) (rw f at t) in
    let n = content-whole m (15 + v) g.sound.full (omega arith) (allowed_short a) in
    (omega arith, rw n a)

-- a number in range of a sound table is given out
pub number-given : (h : TableHead) (m : List ℕ) (v : ℕ) → sound_of h m ≡ true → (v ≡ 0 → ⊥) → v ≤ h.values → given_value h m v ≡ true
unfolding given_value
number-given h m v s low high = rw (s, ne_eqb v 0 low, le-leb v h.values high)

-- the kind that is read off a byte stands for that byte
pub kind_back : (k : ℕ) (kind : Kind) → Some kind ≡ kind_in k → byte_of kind ≡ k
kind_back k kind e = go (eqb k 0) refl (eqb k 1) refl (eqb k 2) refl (eqb k 3) refl e
  where
    go : (a : Bool) → eqb k 0 ≡ a → (b : Bool) → eqb k 1 ≡ b → (c : Bool) → eqb k 2 ≡ c → (d : Bool) → eqb k 3 ≡ d
        → Some kind ≡ cond a (Some Name) (cond b (Some KindBool) (cond c (Some KindInt) (cond d (Some KindString) None))) → byte_of kind ≡ k
    go true p b q c r d s f = let is : kind ≡ Name = cc in rw is (sym (eqb-true k 0 p))
    go false p true q c r d s f = let is : kind ≡ KindBool = cc in rw is (sym (eqb-true k 1 q))
    go false p false q true r d s f = let is : kind ≡ KindInt = cc in rw is (sym (eqb-true k 2 r))
    go false p false q false r true s f = let is : kind ≡ KindString = cc in rw is (sym (eqb-true k 3 s))
    go false p false q false r false s f = absurd (let z : ◌≡◌ {A = ℕ} 0 1 = cc in omega arith)

-- what a value of each kind stands for
module _ (h : TableHead) (m : List ℕ) (v : ℕ) (given : given_value h m v ≡ true) where
  pub no_name : 0 ≡ kind_at m (15 + v) → ⊥
  no_name k = go (given_allowed (given-value h m v given)).1
    where
      go : {n b : ℕ} → Allowed (kind_at m (15 + v)) n b → ⊥
      go (inl (ek, en)) = omega arith
      go (inr (inl (ek, en))) = omega arith
      go (inr (inr (ek, en))) = omega arith

  pub has_kind : None ≡ kind_in (kind_at m (15 + v)) → ⊥
  has_kind e = go (given_allowed (given-value h m v given)).1
    where
      go : {n b : ℕ} → Allowed (kind_at m (15 + v)) n b → ⊥
      go (inl (ek, en)) = let f = rw ek at e in let z : ◌≡◌ {A = ℕ} 0 1 = cc in omega arith
      go (inr (inl (ek, en))) = let f = rw ek at e in let z : ◌≡◌ {A = ℕ} 0 1 = cc in omega arith
      go (inr (inr (ek, en))) = let f = rw ek at e in let z : ◌≡◌ {A = ℕ} 0 1 = cc in omega arith

  pub one_byte : 1 ≡ kind_at m (15 + v) → length (content_at m (15 + v)) ≡ 1
  one_byte k = go (given_allowed (given-value h m v given)).1
    where
      go : {n b : ℕ} → Allowed (kind_at m (15 + v)) n b → n ≡ 1
      go (inl (ek, (en, eb))) = en
      go (inr (inl (ek, en))) = absurd (omega arith)
      go (inr (inr (ek, en))) = absurd (omega arith)

  pub eight_bytes : 2 ≡ kind_at m (15 + v) → length (content_at m (15 + v)) ≡ 8
  eight_bytes k = go (given_allowed (given-value h m v given)).1
    where
      go : {n b : ℕ} → Allowed (kind_at m (15 + v)) n b → n ≡ 8
      go (inl (ek, en)) = absurd (omega arith)
      go (inr (inl (ek, en))) = en
      go (inr (inr (ek, en))) = absurd (omega arith)

  pub bool_shown : 1 ≡ kind_at m (15 + v) → shown_of h m v ≡ Some (IsBool (eqb (get_or (content_at m (15 + v)) 0 0) 1))
  unfolding shown_of value_at value_of case_of number_of
  bool_shown k = rw (given, ← k, alone (content_at m (15 + v)) (one_byte k)) refl
    where
      alone : (c : List ℕ) → length c ≡ 1 → number_of c ≡ get_or c 0 0
      alone (b ∷ []) e = omega arith
      alone _ e = absurd (omega arith)

  pub int_shown : 2 ≡ kind_at m (15 + v) → shown_of h m v ≡ Some (IsInt (to_z w64 (from_le_bytes w64 (content_at m (15 + v)))))
  unfolding shown_of value_at value_of case_of
  int_shown k = rw (given, ← k, number_is (content_at m (15 + v)) (eight_bytes k)) refl

  pub string_shown : 3 ≡ kind_at m (15 + v) → (shown_of h m v ≡ Some IsString) × (string_of h m v ≡ content_at m (15 + v))
  unfolding shown_of string_of value_at value_of case_of bytes_of
  string_shown k = rw (given, ← k) (refl, refl)

  pub other_shown : (kind : Kind) → byte_of kind ≡ kind_at m (15 + v) → (kind ≡ KindBool → ⊥) → (kind ≡ KindInt → ⊥) → shown_of h m v ≡ Some IsString
  other_shown Name k b i = absurd (no_name k)
  other_shown KindBool k b i = absurd (b refl)
  other_shown KindInt k b i = absurd (i refl)
  other_shown KindString k b i = (string_shown k).0

  pub no_string : (kind : Kind) → byte_of kind ≡ kind_at m (15 + v) → (kind ≡ KindString → ⊥) → string_of h m v ≡ []
  unfolding string_of value_at value_of bytes_of
  no_string Name k s = absurd (no_name k)
  no_string KindBool k s = rw (given, ← k) refl
  no_string KindInt k s = rw (given, ← k) refl
  no_string KindString k s = absurd (s refl)

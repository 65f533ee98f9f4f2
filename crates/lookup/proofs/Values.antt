-- In every sound table, whoever made it, one value has one number, and so has one name. Assumes nothing.
use Prim.Native.Nat.{ℕ, zero, suc, ◌+◌, ◌-◌, ◌*◌, ◌<◌, ◌≤◌, min}
use native.Mathlib.Nat.{add-zero, zero-add}
use native.Mathlib.Omega.{arith}
use mathlib.Core.Path.{◌≡◌, refl, sym, ap, ap₂, ◌∙◌}
use mathlib.Core.Logic.{inl, inr}
use mathlib.Core.Bool.{true}
use mathlib.Core.List.{List, [], ◌∷◌}
use lib.ListN.{length, get_or, take, drop}
use lib.Seq.{get_or-take, get_or-drop}
use lib.Dec.{eqb}
use mir.Syntax.{w64}
use mir.Val.{Fits}
use mir.Facts.{of_z-to_z}
use borrow.Author.Tests.{eqb-true, lt-ltb}
use Rattle.entries.specs.Entry.{length_at, kind_at, content_at, entry_at}
use Rattle.entries.specs.Number.{low_bytes, number_of}
use Rattle.entries.specs.Order.{fits_at}
use Rattle.table.specs.declared.TableHead.{TableHead}
use Rattle.table.specs.Value.{Value, bool, int, string, kind_of, content_of}
use Rattle.lookup.specs.Show.{value_of, bytes_of, case_of, given_name, given_value, value_at, shown_of, name_of, string_of}
use Rattle.entries.proofs.Bytes.{bytes_below, low-number}
use Rattle.table.proofs.Tables.{both}
use Rattle.lookup.proofs.Numbers.{Given, given-value, given-name, fits-at, Allowed, allowed_short, content-whole, allowed_at}
use Rattle.table.proofs.Model.{one_number}

-- lent memory holds bytes: its type says so, and soundness does not look at it. Were 256 a byte, 256 0 and 0 1 would be one integer
abbrev pub Bytes : List ℕ → Type 0
Bytes l = (i : ℕ) → get_or l i 0 < 256

-- ---- an entry is that of the value which is read off it
one_byte : (c : List ℕ) → length c ≡ 1 → get_or c 0 0 ≤ 1 → content_of (value_of 1 c) ≡ c
unfolding value_of content_of number_of
one_byte [] e l = absurd (omega arith)
one_byte (zero ∷ []) e l = refl
one_byte (suc zero ∷ []) e l = refl
one_byte (suc (suc x) ∷ []) e l = absurd (omega arith)
one_byte (x ∷ y ∷ c) e l = absurd (omega arith)

eight-bytes : (c : List ℕ) → Bytes c → length c ≡ 8 → content_of (value_of 2 c) ≡ c
unfolding value_of content_of
eight-bytes c b e =
    let f : Fits w64 (number_of c) = record { fits = bytes_below 8 c b (omega arith) } in
    ap (low_bytes 8) (of_z-to_z f) ∙ ap (λ (n : ℕ). low_bytes n (number_of c)) (sym e) ∙ low-number c b

pub entry-back : (k : ℕ) (c : List ℕ) (b : ℕ) → Bytes c → (0 < length c → b ≡ get_or c 0 0) → Allowed k (length c) b
    → (kind_of (value_of k c) ≡ k) × (content_of (value_of k c) ≡ c)
unfolding value_of kind_of content_of
entry-back k c b small first (inl (ek, (en, eb))) =
    let f = first (omega arith) in
    rw ek (refl, one_byte c en (omega arith))
entry-back k c b small first (inr (inl (ek, en))) = rw ek (refl, eight-bytes c small en)
entry-back k c b small first (inr (inr (ek, en))) = rw ek (refl, refl)

-- ---- the content of a slot
take-bytes : (n : ℕ) (l : List ℕ) → Bytes l → Bytes (take n l)
take-bytes zero l b i = omega arith
take-bytes (suc n) [] b i = omega arith
take-bytes (suc n) (x ∷ l) b zero = b 0
take-bytes (suc n) (x ∷ l) b (suc i) = take-bytes n l (λ j. b (suc j)) i

module _ (m : List ℕ) (s : ℕ) where
  content-bytes : Bytes m → Bytes (content_at m s)
  unfolding content_at
  content-bytes b = take-bytes (min (length_at m s) 32) (drop (s * 34 + 2) m) (λ i. rw get_or-drop (b (s * 34 + 2 + i)))

  content-first : 0 < length_at m s → get_or m (s * 34 + 2) 0 ≡ get_or (content_at m s) 0 0
  unfolding content_at
  content-first h =
      sym (get_or-take (min (length_at m s) 32) (drop (s * 34 + 2) m) 0 0 (omega arith) ∙ get_or-drop (s * 34 + 2) m 0 0 ∙ ap (λ (i : ℕ). get_or m i 0) (add-zero (s * 34 + 2)))

  pub slot-back : Bytes m → length m ≡ 9214 → 16 ≤ s → s < 271 → fits_at m s ≡ true
      → entry_at m s ≡ kind_of (value_of (kind_at m s) (content_at m s)) ∷ content_of (value_of (kind_at m s) (content_at m s))
  unfolding entry_at
  slot-back b e h l f =
      let a = allowed_at m s h f in
      let n = content-whole m s e l (allowed_short a) in
      let back = entry-back (kind_at m s) (content_at m s) (get_or m (s * 34 + 2) 0) (content-bytes b) (λ p. content-first (rw n at p)) (rw n a) in
      sym (ap₂ (λ (k : ℕ) (c : List ℕ). k ∷ c) back.0 back.1)

  name-kind : s < 16 → fits_at m s ≡ true → kind_at m s ≡ 0
  unfolding fits_at
  name-kind h f = eqb-true (kind_at m s) 0 (both (eqb (kind_at m s) 0) _ (rw (lt-ltb s 16 h) at f)).0

-- ---- numbers that are given out
module _ (h : TableHead) (m : List ℕ) where
  value-back-at : Bytes m → (v : ℕ) → Given h m v → entry_at m (16 + (v - 1)) ≡ kind_of (value_at m v) ∷ content_of (value_at m v)
  unfolding value_at
  value-back-at b v g =
      let low = g.low in
      let high = g.high in
      let few = g.sound.of_values.few in
      let e : 16 + (v - 1) ≡ 15 + v = omega arith in
      let fit = fits-at m 16 h.values (v - 1) g.sound.of_values.fit (omega arith) in
      ap (entry_at m) e ∙ slot-back m (15 + v) b g.sound.full (omega arith) (omega arith) (rw e at fit)

  -- two numbers under which the same value is read are the same; integers are compared as integers
  pub values-apart : Bytes m → (i j : ℕ) → given_value h m i ≡ true → given_value h m j ≡ true → value_at m i ≡ value_at m j → i ≡ j
  values-apart b i j gi gj e =
      let p = given-value h m i gi in
      let q = given-value h m j gj in
      let i-low = p.low in
      let j-low = q.low in
      let i-high = p.high in
      let j-high = q.high in
      let same = value-back-at b i p ∙ ap (λ (v : Value). kind_of v ∷ content_of v) e ∙ sym (value-back-at b j q) in
      let one = one_number m 16 h.values 255 (i - 1) (j - 1) p.sound.of_values (omega arith) (omega arith) same in
      omega arith

  name-entry : (n : ℕ) → given_name h m n ≡ true → entry_at m (0 + n) ≡ 0 ∷ name_of h m n
  unfolding entry_at name_of
  name-entry n g =
      let p = given-name h m n g in
      let below = p.1 in
      let few = p.0.of-names.few in
      let fit = fits-at m 0 h.names n p.0.of-names.fit below in
      rw (g, name-kind m (0 + n) (omega arith) fit, zero-add n)

  -- and two under which the same name is read
  pub names_apart : (i j : ℕ) → given_name h m i ≡ true → given_name h m j ≡ true → name_of h m i ≡ name_of h m j → i ≡ j
  names_apart i j gi gj e =
      let p = given-name h m i gi in
      let q = given-name h m j gj in
      one_number m 0 h.names 16 i j p.0.of-names p.1 q.1 (name-entry i gi ∙ ap (λ (c : List ℕ). 0 ∷ c) e ∙ sym (name-entry j gj))

shown-value : (v w : Value) → case_of v ≡ case_of w → bytes_of v ≡ bytes_of w → v ≡ w
unfolding case_of bytes_of
shown-value (bool x) (bool y) e f = cc
shown-value (bool x) (int y) e f = cc
shown-value (bool x) (string y) e f = cc
shown-value (int x) (bool y) e f = cc
shown-value (int x) (int y) e f = cc
shown-value (int x) (string y) e f = cc
shown-value (string x) (bool y) e f = cc
shown-value (string x) (int y) e f = cc
shown-value (string x) (string y) e f = cc

-- the same, said of what the calls answer: two numbers that `value_at` and `string_bytes` do not tell apart
pub shown-apart : (h : TableHead) (m : List ℕ) → Bytes m → (i j : ℕ) → given_value h m i ≡ true → given_value h m j ≡ true
    → shown_of h m i ≡ shown_of h m j → string_of h m i ≡ string_of h m j → i ≡ j
unfolding shown_of string_of
shown-apart h m b i j gi gj e f =
    let some = rw (gi, gj) at e in
    let case : case_of (value_at m i) ≡ case_of (value_at m j) = cc in
    values-apart h m b i j gi gj (shown-value (value_at m i) (value_at m j) case (rw (gi, gj) at f))

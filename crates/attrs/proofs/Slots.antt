-- What the bits of a mask tell of what its set says: at one key, and along a walk.
use mathlib.Core.Path.{◌≡◌, refl, sym, ap, ◌∙◌}
use mathlib.Core.Bool.{Bool, true, false, cond, not, true≢false}
use mathlib.Core.List.{List, ◌∷◌}
use Prim.Native.Nat.{ℕ, ◌-◌, ◌^◌, ◌≤◌, ◌<◌}
use native.Mathlib.Omega.{arith}
use lib.Count.{count_trailing_zeros}
use lib.Dec.{eqb, ltb}
use lib.ListN.{get_or}
use borrow.Author.Tests.{eqb-true, eqb-false}
use Rattle.attrs.specs.declared.Attrs.{Attrs}
use Rattle.std.specs.Prelude.{Some}
use Rattle.sets.specs.Sets.{Slot, absent, is, keys, is_absent, lay, slot_is, present}
use Rattle.sets.specs.Bits.{bit, keys_of, first_key, rest_of, Rest}
use Rattle.attrs.specs.Packed.{Held, hidden, holds, look, seen, flag, says, env_of}
use Rattle.sets.proofs.Bits.{bit-lt, bit_clear-same, bit_clear-other, low}
use Rattle.sets.proofs.Keys.{those_picks, picks_ext, keys-next, first-at, each, each-present}
use Rattle.attrs.proofs.Looks.{flag-look}
use Rattle.attrs.proofs.Says.{says_at, says_past}

-- ---- at one key

module _ (a : Attrs) (k : ℕ) where
  pub says-clear : bit a.mask k ≡ 0 → says a k ≡ absent
  unfolding says look
  says-clear e = rw e (go (ltb k 16))
    where
      go : (b : Bool) → cond b absent absent ≡ absent
      go true = refl
      go false = refl

  pub says-set : k < 16 → bit a.mask k ≡ 1 → says a k ≡ is (get_or a.values k 0)
  unfolding look
  says-set l e = says_at a k l ∙ rw e

  pub env-clear : bit a.mask k ≡ 0 → env_of a k ≡ 0
  unfolding env_of
  env-clear e = ap (λ (s : Slot). lay s 0) (says-clear e)

  pub env-past : 16 ≤ k → env_of a k ≡ 0
  unfolding env_of
  env-past l = ap (λ (s : Slot). lay s 0) (says_past a k l)

  pub env-set : k < 16 → bit a.mask k ≡ 1 → env_of a k ≡ get_or a.values k 0
  unfolding env_of
  env-set l e = ap (λ (s : Slot). lay s 0) (says-set l e)

  pub key-says : k < 16 → bit a.mask k ≡ 1 → says a k ≡ is (env_of a k)
  key-says l e = says-set l e ∙ ap is (sym (env-set l e))

  pub has-bit : k < 16 → not (is_absent (says a k)) ≡ eqb (bit a.mask k) 1
  has-bit l = ap (λ (s : Slot). not (is_absent s)) (says_at a k l) ∙ go (look a k) ∙ ap (λ (b : ℕ). eqb b 1) (flag-look a k)
    where
      go : (h : Held) → not (is_absent (seen h)) ≡ eqb (flag h) 1
      go (hidden v) = refl
      go (holds v) = refl

  -- a key that is there agrees with its value, one that is not with none
  pub agrees-there : (v : ℕ) → not (is_absent (says a k)) ≡ true → eqb (env_of a k) v ≡ slot_is (says a k) v
  unfolding env_of
  agrees-there v e = go (says a k) e
    where
      go : (s : Slot) → not (is_absent s) ≡ true → eqb (lay s 0) v ≡ slot_is s v
      go absent q = absurd (true≢false (sym q))
      go (is w) q = refl

  pub agrees-not : (v : ℕ) → not (is_absent (says a k)) ≡ false → false ≡ slot_is (says a k) v
  agrees-not v e = go (says a k) e
    where
      go : (s : Slot) → not (is_absent s) ≡ false → false ≡ slot_is s v
      go absent q = refl
      go (is w) q = absurd (true≢false q)

-- ---- a walk over the keys of a set, lowest first

pub present-keys : (a : Attrs) → present keys (says a) ≡ keys_of a.mask
unfolding keys_of
present-keys a =
    those_picks (λ k. not (is_absent (says a k)))
    ∙ picks_ext 16 0 (λ k. not (is_absent (says a k))) (λ k. eqb (bit a.mask k) 1) (has-bit a)
    ∙ sym (those_picks (λ k. eqb (bit a.mask k) 1))

pub each-keys : {B : Type 0} (f : ℕ → Slot → B → B) (z : B) → ((k : ℕ) (b : B) → f k absent b ≡ b) → (a : Attrs)
    → each f z keys (says a) ≡ each f z (keys_of a.mask) (says a)
each-keys f z h a = each-present f z h keys (says a) ∙ ap (λ (ks : List ℕ). each f z ks (says a)) (present-keys a)

-- the keys that are left are keys of the whole mask
pub record Part (m left : ℕ) : Type 0 where
  pub fits : left < 2 ^ 16
  pub among : (j : ℕ) → bit left j ≤ bit m j

pub part_all : (m : ℕ) → m < 2 ^ 16 → Part m m
part_all m l = record { fits = l; among = λ j. omega arith }

-- one turn: the lowest key that is left, and what is left after it
pub record Turn (m left k r : ℕ) : Type 0 where
  pub lt : k < 16
  pub here : bit left k ≡ 1
  pub there : bit m k ≡ 1
  pub is : r ≡ left - 2 ^ k
  pub first : keys_of left ≡ k ∷ keys_of r
  pub rest : Part m r
  pub less : r < left

pub turn : {m left : ℕ} (r : ℕ) → Part m left → (left ≡ 0 → ⊥) → Rest left r → Turn m left (count_trailing_zeros 16 left) r
turn {m} {left} r p n q =
    let k = count_trailing_zeros 16 left in
    let o = low left p.fits n in
    record {
      lt = o.lt;
      here = o.set;
      there = omega (arith, p.among k, bit-lt m k, o.set);
      is = q.is;
      first = keys-next left p.fits n ∙ rw q.is;
      rest = record { fits = omega (arith, p.fits, q.less); among = λ j. rw q.is (below j o.set (eqb j k) refl) };
      less = omega (arith, q.less);
    }
  where
    below : (j : ℕ) → bit left (count_trailing_zeros 16 left) ≡ 1 → (t : Bool) → eqb j (count_trailing_zeros 16 left) ≡ t → bit (rest_of left) j ≤ bit m j
    below j s true e = rw (eqb-true j (count_trailing_zeros 16 left) e) (omega (arith, bit_clear-same left (count_trailing_zeros 16 left) s))
    below j s false e = omega (arith, bit_clear-other left (count_trailing_zeros 16 left) j s (eqb-false j (count_trailing_zeros 16 left) e), p.among j)

-- the same where `lowest` found the key
pub turn-lowest : {m left : ℕ} (k r : ℕ) → Part m left → first_key (keys_of left) ≡ Some k → Rest left r → Turn m left k r
turn-lowest k r p e q = let f = first-at _ k p.fits e in rw f.1 (turn r p f.0 q)

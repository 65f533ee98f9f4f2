-- Texts behind one another in a buffer, and the digits of numbers.
use mathlib.Core.Path.{◌≡◌, refl, sym, ap, ap₂, subst, ◌∙◌}
use mathlib.Core.Bool.{Bool, true, false, cond}
use mathlib.Core.List.{List, [], ◌∷◌, ◌++◌, append_assoc, append-nil}
use Prim.Native.Nat.{ℕ, zero, suc, ◌+◌, ◌-◌, ◌*◌, ◌/◌, ◌%◌, ◌^◌, ◌≤◌, ◌<◌}
use native.Mathlib.Omega.{arith}
use native.Mathlib.Nat.{pow-suc, mod-eq_of_lt, pow-le-pow_right}
use borrow.Author.Tests.{lt-ltb, le-ltb, ltb-true, ltb-false}
use lib.Dec.{ltb}
use lib.ListN.{length, take, drop, length-append, length-drop, take-append-drop}
use borrow.Rule.Slice.PartMut.{put_mid}
use lib.Seq.{take_at, drop-append-add, drop-drop, length-take-le}
use Rattle.io.specs.Digits.{last_digits, hex_digit_ascii, IsDigitCount}
use Rattle.attrs.specs.declared.Attrs.{Attrs}
use Rattle.sets.specs.Bits.{keys_of, first_key, Rest}
use Rattle.attrs.specs.Packed.{env_of, Got}
use Rattle.sets.proofs.Keys.{keys_none, keys-rest, keys-le}
use Rattle.std.specs.Prelude.{Some}
use Rattle.words.specs.Show.{wrote, Wrote, spelled, decimal_text, pair_text, pairs_text, attrs_text}

-- ---- texts

module _ (out : List ℕ) (n : ℕ) where
  pub length-wrote : (a : List ℕ) → n + length a ≤ length out → length (wrote out n a) ≡ length out
  unfolding wrote
  length-wrote a h =
      simp (length-append, length-drop) (omega (arith, length-take-le n out (omega arith)))

  pub wrote-wrote : (a b : List ℕ) → n + length a + length b ≤ length out → wrote (wrote out n a) (n + length a) b ≡ wrote out n (a ++ b)
  unfolding wrote
  wrote-wrote a b h =
      let front : List ℕ = take n out ++ a in
      let sums : n + length a + length b ≡ n + (length a + length b) = omega arith in
      let long : length front ≡ n + length a = length-append (take n out) a ∙ ap (λ (k : ℕ). k + length a) (length-take-le n out (omega arith)) in
      let shape : take n out ++ (a ++ drop (n + length a) out) ≡ front ++ drop (n + length a) out = sym (append_assoc (take n out) a _) in
      let head : take (n + length a) (front ++ drop (n + length a) out) ≡ front = take_at front _ _ long in
      let tail : drop (n + length a + length b) (front ++ drop (n + length a) out) ≡ drop (n + (length a + length b)) out =
      ap (λ (k : ℕ). drop (k + length b) (front ++ drop (n + length a) out)) (sym long)
      ∙ drop-append-add front (drop (n + length a) out) (length b)
      ∙ drop-drop (length b) (n + length a) out
      ∙ ap (λ (k : ℕ). drop k out) sums in
      rw (shape, head, tail, length-append a b) (simp append_assoc)

module _ {x y z : List ℕ} {n m r : ℕ} {a b : List ℕ} where
  pub then : Wrote x y n a m → Wrote y z m b r → n + length a + length b ≤ length x → Wrote x z n (a ++ b) r
  then p q h =
      record {
        is = q.is ∙ rw (p.is, p.next) (wrote-wrote x n a b h);
        next = q.next ∙ rw (p.next, length-append a b) (omega arith);
        long = q.long ∙ p.long;
        room = q.room;
      }

pub put-wrote : (out text now : List ℕ) (n : ℕ) → n + length text ≤ length out → now ≡ text → Wrote out (put_mid n (n + length text - n) out now) n text (n + length text)
unfolding wrote
put-wrote out text now n h e =
    let k : n + (n + length text - n) ≡ n + length text = omega arith in
    let is : put_mid n (n + length text - n) out now ≡ wrote out n text = rw (e, drop-drop (n + length text - n) n out, k) in
    let long : length (put_mid n (n + length text - n) out now) ≡ length out = ap length is ∙ length-wrote out n text h in
    record { is = is; next = refl; long = long; room = omega arith }

-- ---- digits

pub spelled_short : (f x : ℕ) → length (spelled f x) ≤ f
unfolding spelled
spelled_short zero x = omega arith
spelled_short (suc f) x = go (ltb x 10) (spelled_short f (x / 10))
  where
    go : (t : Bool) → length (spelled f (x / 10)) ≤ f → length (cond t ((48 + x) ∷ []) (spelled f (x / 10) ++ ((48 + x % 10) ∷ []))) ≤ suc f
    go true h = omega arith
    go false h = simp length-append (omega arith)

small-glyph : (d : ℕ) → d < 10 → hex_digit_ascii d ≡ 48 + d
small-glyph d h = simp (lt-ltb d 10 h)

-- The fewest digits that hold a number are those that are spelled.
spelled_digits : (f k x : ℕ) → k < f → x < 10 ^ suc k → (0 < k → 10 ^ k ≤ x) → last_digits 10 (suc k) x ≡ spelled f x
unfolding spelled
spelled_digits zero k x l h m = absurd (omega arith)
spelled_digits (suc f) zero x l h m =
    let lt : x < 10 = h in
    rw (lt-ltb x 10 lt, mod-eq_of_lt {n = x} {m = 10} lt, small-glyph x lt)
spelled_digits (suc f) (suc k) x l h m =
    let p : 10 ^ suc k ≡ 10 ^ k * 10 = pow-suc 10 k in
    let q : 10 ^ suc (suc k) ≡ 10 ^ suc k * 10 = pow-suc 10 (suc k) in
    let one : 1 ≤ 10 ^ k = pow-le-pow_right {n = 10} (omega arith) {i = 0} {j = k} (omega arith) in
    let low : 10 ^ suc k ≤ x = m (omega arith) in
    let ih = spelled_digits f k (x / 10) (omega arith) (omega arith) (λ z. omega arith) in
    rw (le-ltb x 10 (omega arith)) (ap₂ (λ (s : List ℕ) (d : ℕ). s ++ (d ∷ [])) ih (small-glyph (x % 10) (omega arith)))

pub decimal-is : (x k : ℕ) → IsDigitCount 10 1 x k → k ≤ 20 → last_digits 10 k x ≡ decimal_text x
decimal-is x zero f l = absurd (omega (arith, f.0))
decimal-is x (suc k) f l = spelled_digits 20 k x (omega arith) f.1 (λ z. rw (suc-less k) at (f.2 (omega arith)))
  where
    suc-less : (k : ℕ) → suc k - 1 ≡ k
    suc-less k = omega arith

-- Twenty digits hold any number of 64 bits.
pub fewest_short : (x k : ℕ) → x < 18446744073709551616 → IsDigitCount 10 1 x k → k ≤ 20
fewest_short x k h f = go (ltb 20 k) refl
  where
    go : (t : Bool) → ltb 20 k ≡ t → k ≤ 20
    go false e = ltb-false 20 k e
    go true e =
        let l = ltb-true 20 k e in
        let m : 10 ^ 20 ≤ 10 ^ (k - 1) = pow-le-pow_right {n = 10} (omega arith) {i = 20} {j = k - 1} (omega arith) in
        absurd (omega (arith, f.2 (omega arith)))

pub decimal-wrote : {o p : List ℕ} {n r : ℕ} (x k : ℕ) (d : List ℕ) → x < 18446744073709551616 → IsDigitCount 10 1 x k → take k d ≡ last_digits 10 k x → Wrote o p n (take k d) r → Wrote o p n (decimal_text x) r
decimal-wrote {o} {p} {n} {r} x k d h f e w =
    subst (λ (t : List ℕ). Wrote o p n t r) (e ∙ decimal-is x k f (fewest_short x k h f)) w

-- ---- attributes

pub pair_short : (k v : ℕ) → length (pair_text k v) ≤ 42
pair_short k v =
    let a = spelled_short 20 k in
    let b = spelled_short 20 v in
    omega (arith, length-append (decimal_text k) (61 ∷ decimal_text v))

-- The four texts of an attribute.
module _ {o p q r s : List ℕ} {n a b c d : ℕ} (k v : ℕ) (h : n + 42 ≤ length o) where
  pub pair-wrote : Wrote o p n (32 ∷ []) a → Wrote p q a (decimal_text k) b → Wrote q r b (61 ∷ []) c → Wrote r s c (decimal_text v) d
      → Wrote o s n (pair_text k v) d
  pair-wrote w x y z =
      let sk = spelled_short 20 k in
      let sv = spelled_short 20 v in
      let two : Wrote o q n (32 ∷ decimal_text k) b = then w x (omega arith) in
      let three : Wrote o r n (32 ∷ (decimal_text k ++ (61 ∷ []))) c = then two y (omega arith) in
      let la = length-append (decimal_text k) (61 ∷ []) in
      let four : Wrote o s n (32 ∷ (decimal_text k ++ (61 ∷ []) ++ decimal_text v)) d = then three z (omega arith) in
      rw append_assoc at four

module _ (a : Attrs) where
  pairs-none : pairs_text a [] ≡ []
  unfolding pairs_text
  pairs-none = refl

  pairs-cons : (k : ℕ) (ks : List ℕ) → pairs_text a (k ∷ ks) ≡ pair_text k (env_of a k) ++ pairs_text a ks
  unfolding pairs_text
  pairs-cons k ks = refl

-- The walk over the keys: what is written, and the attributes that are left, are the whole.
pub record Listing (set : Attrs) (before now : List ℕ) (n at left : ℕ) : Type 0 where
  pub done : List ℕ
  pub put : Wrote before now n done at
  pub rest : done ++ pairs_text set (keys_of left) ≡ attrs_text set
  pub fits : left < 2 ^ 16
  pub room : at + 42 * length (keys_of left) ≤ length before

nothing-wrote : (out : List ℕ) (n : ℕ) → n ≤ length out → Wrote out out n [] n
unfolding wrote
nothing-wrote out n h =
    let z : n + 0 ≡ n = omega arith in
    record { is = sym (ap (λ (k : ℕ). take n out ++ drop k out) z ∙ take-append-drop n out); next = omega arith; long = refl; room = h }

module _ {set : Attrs} {out : List ℕ} {n : ℕ} where
  pub listing_start : set.mask < 2 ^ 16 → n + 672 ≤ length out → Listing set out out n n set.mask
  listing_start f h =
      record { done = []; put = nothing-wrote out n (omega arith); rest = refl; fits = f; room = omega (arith, keys-le set.mask f) }

  module _ {now : List ℕ} {at left : ℕ} (w : Listing set out now n at left) where
    module _ {k left' : ℕ} (e : first_key (keys_of left) ≡ Some k) (r : Rest left left') where
      next : keys_of left ≡ k ∷ keys_of left'
      next = keys-rest left k left' w.fits e r

      pub listing-room : at + 42 ≤ length now
      listing-room = omega (arith, w.room, w.put.long, ap length next)

      pub listing_step : {now' : List ℕ} {at' v : ℕ} → Got set k v → Wrote now now' at (pair_text k v) at' → Listing set out now' n at' left'
      listing_step {now'} {at'} {v} g p =
          let count : length (keys_of left) ≡ suc (length (keys_of left')) = ap length next in
          let short = pair_short k v in
          record {
            done = w.done ++ pair_text k v;
            put = then w.put p (omega (arith, w.put.next));
            rest =
                append_assoc w.done (pair_text k v) (pairs_text set (keys_of left'))
                ∙ ap (λ (l : List ℕ). w.done ++ l)
                (ap (λ (x : ℕ). pair_text k x ++ pairs_text set (keys_of left')) g.is
                ∙ sym (pairs-cons set k (keys_of left'))
                ∙ ap (pairs_text set) (sym next))
                ∙ w.rest;
            fits = omega (arith, r.less, w.fits);
            room = omega (arith, p.next, w.room);
          }

    pub listing-done : left ≡ 0 → Wrote out now n (attrs_text set) at
    listing-done z =
        let none : keys_of left ≡ [] = ap keys_of z ∙ keys_none in
        let all : w.done ≡ attrs_text set =
        sym (append-nil w.done) ∙ ap (λ (l : List ℕ). w.done ++ l) (sym (pairs-none set) ∙ ap (pairs_text set) (sym none)) ∙ w.rest in
        subst (λ (t : List ℕ). Wrote out now n t at) all w.put

-- What is written is read back.
use Prim.Native.Nat.{ℕ, zero, suc, ◌+◌, ◌*◌, ◌/◌, ◌%◌, ◌<◌}
use native.Mathlib.Omega.{arith}
use mathlib.Core.Path.{◌≡◌, refl, sym, ap, ◌∙◌}
use mathlib.Core.Bool.{Bool, false, cond}
use mathlib.Core.List.{List, [], ◌∷◌, ◌++◌, append_assoc}
use lib.Dec.{ltb}
use lib.ListN.{length, get_or, length-append}
use lib.Seq.{get_or-append-add}
use borrow.Author.Tests.{le-ltb}
use Rattle.std.specs.Prelude.{Some, None}
use Rattle.std.proofs.lemmas.Nat.{le_bytes_4}
use Rattle.attrs.specs.declared.Attrs.{Attrs}
use Rattle.ops.specs.declared.delta.Inserted.TheVariants.{Text, Embed}
use Rattle.ops.specs.declared.delta.Op.{Op}
use Rattle.ops.specs.declared.delta.Op.TheVariants.{Insert, Delete, Retain}
use Rattle.ops.specs.declared.delta.DeltaOp.{DeltaOp}
use Rattle.encoding.specs.Words.{kind_of, first_of, second_of, four, words_of, all_words, bytes_of, meant_by, with_set, op_from, found_from, found_at}

-- ---- values

-- four bytes in front of the others
digits : (a b c d : ℕ) → a < 256 → b < 256 → c < 256 → d < 256 → (xs : List ℕ)
    → (let w = a + 256 * b + 65536 * c + 16777216 * d in w % 256 ∷ w / 256 % 256 ∷ w / 65536 % 256 ∷ w / 16777216 % 256 ∷ xs) ≡ a ∷ b ∷ c ∷ d ∷ xs
digits a b c d la lb lc ld xs =
    ap (λ (l : List ℕ). l ++ xs) (le_bytes_4 (a ∷ b ∷ c ∷ d ∷ []) (a + 256 * b + 65536 * c + 16777216 * d) refl small (omega arith))
  where
    small : (i : ℕ) → get_or (a ∷ b ∷ c ∷ d ∷ []) i 0 < 256
    small zero = la
    small (suc zero) = lb
    small (suc (suc zero)) = lc
    small (suc (suc (suc zero))) = ld
    small (suc (suc (suc (suc i)))) = omega arith

-- the elements of a list, one by one
abbrev listing : ℕ → (ℕ → ℕ) → List ℕ
listing zero f = []
listing (suc n) f = f 0 ∷ listing n (λ k. f (suc k))

listing-is : (v : List ℕ) → listing (length v) (λ k. get_or v k 0) ≡ v
listing-is [] = refl
listing-is (x ∷ v) = ap (λ (l : List ℕ). x ∷ l) (listing-is v)

values-back : (v : List ℕ) → length v ≡ 16 → ((k : ℕ) → get_or v k 0 < 256) → bytes_of (four v 0) (four v 4) (four v 8) (four v 12) ≡ v
values-back v e s = read ∙ ap (λ (n : ℕ). listing n (λ k. get_or v k 0)) (sym e) ∙ listing-is v
  where
    one : (k : ℕ) (xs ys : List ℕ) → xs ≡ ys
        → four v k % 256 ∷ four v k / 256 % 256 ∷ four v k / 65536 % 256 ∷ four v k / 16777216 % 256 ∷ xs
        ≡ get_or v k 0 ∷ get_or v (k + 1) 0 ∷ get_or v (k + 2) 0 ∷ get_or v (k + 3) 0 ∷ ys
    one k xs ys q =
        digits (get_or v k 0) (get_or v (k + 1) 0) (get_or v (k + 2) 0) (get_or v (k + 3) 0) (s k) (s (k + 1)) (s (k + 2)) (s (k + 3)) xs
        ∙ ap (λ (l : List ℕ). get_or v k 0 ∷ get_or v (k + 1) 0 ∷ get_or v (k + 2) 0 ∷ get_or v (k + 3) 0 ∷ l) q

    read : bytes_of (four v 0) (four v 4) (four v 8) (four v 12) ≡ listing 16 (λ k. get_or v k 0)
    read = one 0 _ _ (one 4 _ _ (one 8 _ _ (one 12 [] [] refl)))

-- ---- an operation

kind-back : (o : Op) → meant_by (kind_of o) (first_of o) (second_of o) ≡ Some o
kind-back (Insert (Text s n)) = refl
kind-back (Insert (Embed e)) = refl
kind-back (Delete n) = refl
kind-back (Retain n) = refl

-- A set as every value of the type is: 16 bits, 16 bytes.
pub record Lawful (a : Attrs) : Type 0 where
  pub fits : a.mask < 65536
  pub long : length a.values ≡ 16
  pub bytes : (k : ℕ) → get_or a.values k 0 < 256

-- a mask of 16 bits is one
masked : (k a b m p q r s : ℕ) → m < 65536 → op_from k a b m p q r s ≡ with_set (record { mask = m; values = bytes_of p q r s }) (meant_by k a b)
unfolding op_from
masked k a b m p q r s h = ap (λ (t : Bool). cond t None (with_set (record { mask = m; values = bytes_of p q r s }) (meant_by k a b))) (le-ltb 65535 m (omega arith))

pub op-back : (d : DeltaOp) → Lawful d.attrs
    → op_from (kind_of d.op) (first_of d.op) (second_of d.op) d.attrs.mask (four d.attrs.values 0) (four d.attrs.values 4) (four d.attrs.values 8) (four d.attrs.values 12) ≡ Some d
op-back d h =
    masked (kind_of d.op) (first_of d.op) (second_of d.op) d.attrs.mask _ _ _ _ h.fits
    ∙ rw (kind-back d.op, values-back d.attrs.values h.long h.bytes)

-- ---- in a list of numbers

from_front : (d : DeltaOp) (a rest : List ℕ) → Lawful d.attrs → found_from (a ++ (words_of d ++ rest)) (length a) ≡ Some d
from_front d a rest h =
    let w = words_of d ++ rest in
    let e : (j : ℕ) → get_or (a ++ w) (length a + j) 0 ≡ get_or w j 0 = λ j. get_or-append-add a w j 0 in
    let z : length a ≡ length a + 0 = omega arith in
    ap (λ (n : ℕ). op_from (get_or (a ++ w) n 0) (get_or (a ++ w) (length a + 1) 0) (get_or (a ++ w) (length a + 2) 0) (get_or (a ++ w) (length a + 3) 0) (get_or (a ++ w) (length a + 4) 0) (get_or (a ++ w) (length a + 5) 0) (get_or (a ++ w) (length a + 6) 0) (get_or (a ++ w) (length a + 7) 0)) z
    ∙ rw (e 0, e 1, e 2, e 3, e 4, e 5, e 6, e 7) (op-back d h)

pub length_all : (ds : List DeltaOp) → length (all_words ds) ≡ length ds * 8
length_all [] = refl
length_all (d ∷ ds) = omega (arith, length_all ds)

all_append : (a b : List DeltaOp) → all_words (a ++ b) ≡ all_words a ++ all_words b
all_append [] b = refl
all_append (d ∷ a) b = ap (λ (l : List ℕ). words_of d ++ l) (all_append a b) ∙ sym (append_assoc (words_of d) (all_words a) (all_words b))

-- Of operations at the front, whatever stands behind them, the one with a ahead of it is number `length a`.
pub read_back_lem : (a b : List DeltaOp) (d : DeltaOp) (rest : List ℕ) → Lawful d.attrs → found_at (all_words (a ++ d ∷ b) ++ rest) (length a) ≡ Some d
unfolding found_at
read_back_lem a b d rest h =
    let w = all_words a ++ (words_of d ++ (all_words b ++ rest)) in
    let e : all_words (a ++ d ∷ b) ++ rest ≡ w = ap (λ (l : List ℕ). l ++ rest) (all_append a (d ∷ b)) ∙ append_assoc (all_words a) (words_of d ++ all_words b) rest ∙ ap (λ (l : List ℕ). all_words a ++ l) (append_assoc (words_of d) (all_words b) rest) in
    let n : length w ≡ length a * 8 + length (words_of d ++ (all_words b ++ rest)) = length-append (all_words a) (words_of d ++ (all_words b ++ rest)) ∙ ap (λ (x : ℕ). x + length (words_of d ++ (all_words b ++ rest))) (length_all a) in
    let t : ltb (length w) (length a * 8 + 8) ≡ false = le-ltb (length w) (length a * 8 + 8) (omega (arith, n)) in
    let f : found_from w (length a * 8) ≡ Some d = ap (found_from w) (sym (length_all a)) ∙ from_front d (all_words a) (all_words b ++ rest) h in
    rw (e, t) f

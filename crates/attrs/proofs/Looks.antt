-- A set is settled by what lies at each of its keys, and so by what it says, but for hidden bytes.
use mathlib.Core.Path.{◌≡◌, refl, sym, ap, ◌∙◌}
use mathlib.Core.List.{List, [], ◌∷◌}
use Prim.Native.Nat.{ℕ, zero, suc, ◌+◌, ◌*◌, ◌/◌, ◌^◌, ◌<◌}
use native.Mathlib.Nat.{pow-suc, le_of_suc-le-suc, not-suc-le-zero, zero-lt-suc}
use native.Mathlib.Omega.{arith}
use lib.ListN.{length, get_or}
use Rattle.attrs.specs.declared.Attrs.{Attrs}
use Rattle.sets.specs.Bits.{bit}
use Rattle.attrs.specs.Packed.{Held, hidden, holds, held, look, flag, byte, mask_of, values_of, make, Whole}
use Rattle.sets.proofs.Bits.{bit-lt, bits-settle}

flag-held : (b v : ℕ) → b < 2 → flag (held b v) ≡ b
flag-held zero v l = refl
flag-held (suc b) v l = omega arith

byte-held : (b v : ℕ) → byte (held b v) ≡ v
byte-held zero v = refl
byte-held (suc b) v = refl

pub flag-look : (a : Attrs) (k : ℕ) → flag (look a k) ≡ bit a.mask k
unfolding look
flag-look a k = flag-held (bit a.mask k) (get_or a.values k 0) (bit-lt a.mask k)

byte-look : (a : Attrs) (k : ℕ) → byte (look a k) ≡ get_or a.values k 0
unfolding look
byte-look a k = byte-held (bit a.mask k) (get_or a.values k 0)

-- ---- `make f` has f k at each key

held_again : (h : Held) → held (flag h) (byte h) ≡ h
held_again (hidden v) = refl
held_again (holds v) = refl

flag-lt : (h : Held) → flag h < 2
flag-lt (hidden v) = omega arith
flag-lt (holds v) = omega arith

bit_mask : (n : ℕ) (f : ℕ → Held) (k : ℕ) → k < n → bit (mask_of n f) k ≡ flag (f k)
unfolding mask_of bit
bit_mask zero f k l = absurd (not-suc-le-zero l)
bit_mask (suc n) f zero l = omega (arith, flag-lt (f 0))
bit_mask (suc n) f (suc k) l =
    let e : (flag (f 0) + 2 * mask_of n (λ k. f (suc k))) / 2 ≡ mask_of n (λ k. f (suc k)) = omega (arith, flag-lt (f 0)) in
    ap (λ (x : ℕ). bit x k) e ∙ bit_mask n (λ k. f (suc k)) k (le_of_suc-le-suc l)

get_or_values : (n : ℕ) (f : ℕ → Held) (k : ℕ) → k < n → get_or (values_of n f) k 0 ≡ byte (f k)
unfolding values_of
get_or_values zero f k l = absurd (not-suc-le-zero l)
get_or_values (suc n) f zero l = refl
get_or_values (suc n) f (suc k) l = get_or_values n (λ k. f (suc k)) k (le_of_suc-le-suc l)

pub look-make : (f : ℕ → Held) (k : ℕ) → k < 16 → look (make f) k ≡ f k
unfolding look make
look-make f k l =
    let b : bit (mask_of 16 f) k ≡ flag (f k) = bit_mask 16 f k l in
    let v : get_or (values_of 16 f) k 0 ≡ byte (f k) = get_or_values 16 f k l in
    rw (b, v) (held_again (f k))

mask_lt : (n : ℕ) (f : ℕ → Held) → mask_of n f < 2 ^ n
unfolding mask_of
mask_lt zero f = omega arith
mask_lt (suc n) f = omega (arith, flag-lt (f 0), mask_lt n (λ k. f (suc k)), pow-suc 2 n)

values-long : (n : ℕ) (f : ℕ → Held) → length (values_of n f) ≡ n
unfolding values_of
values-long zero f = refl
values-long (suc n) f = ap suc (values-long n (λ k. f (suc k)))

pub whole-make : (f : ℕ → Held) → Whole (make f)
unfolding make
whole-make f = record { fits = mask_lt 16 f; long = values-long 16 f }

-- ---- and no other set has

values_are : (n : ℕ) (xs : List ℕ) (f : ℕ → Held) → length xs ≡ n → ((k : ℕ) → k < n → get_or xs k 0 ≡ byte (f k)) → xs ≡ values_of n f
unfolding values_of
values_are zero [] f l h = refl
values_are zero (x ∷ xs) f l h = absurd (omega arith)
values_are (suc n) [] f l h = absurd (omega arith)
values_are (suc n) (x ∷ xs) f l h =
    let e : x ≡ byte (f 0) = h 0 (zero-lt-suc n) in
    let t : xs ≡ values_of n (λ k. f (suc k)) = values_are n xs (λ k. f (suc k)) (omega arith) (λ k g. h (suc k) (omega arith)) in
    cc

pub made : (a : Attrs) (f : ℕ → Held) → Whole a → ((k : ℕ) → k < 16 → look a k ≡ f k) → a ≡ make f
unfolding make
made a f w h =
    let m : a.mask ≡ mask_of 16 f = bits-settle 16 a.mask (mask_of 16 f) w.fits (mask_lt 16 f) (λ k g. sym (flag-look a k) ∙ ap flag (h k g) ∙ sym (bit_mask 16 f k g)) in
    let v : a.values ≡ values_of 16 f = values_are 16 a.values f w.long (λ k g. sym (byte-look a k) ∙ ap byte (h k g)) in
    λ i. record { mask = m i; values = v i }

pub make_ext : (f g : ℕ → Held) → ((k : ℕ) → k < 16 → f k ≡ g k) → make f ≡ make g
make_ext f g h = made (make f) g (whole-make f) (λ k l. look-make f k l ∙ h k l)

-- Numbers as bytes, and back. Assumes nothing.
use Prim.Native.Nat.{ℕ, zero, suc, ◌+◌, ◌*◌, ◌/◌, ◌%◌, ◌^◌, ◌<◌, ◌≤◌}
use native.Mathlib.Nat.{pow-suc, one-le-pow}
use native.Mathlib.Omega.{arith}
use mathlib.Core.Path.{◌≡◌, refl, ap}
use mathlib.Core.List.{List, [], ◌∷◌}
use lib.ListN.{length, get_or}
use mir.Syntax.{w64}
use Rattle.std.specs.Int.{to_le_bytes, from_le_bytes}
use Rattle.entries.specs.Number.{low_bytes, number_of}

-- ---- bytes, low byte first
pub bytes_below : (k : ℕ) (l : List ℕ) → ((i : ℕ) → get_or l i 0 < 256) → length l ≤ k → number_of l < 256 ^ k
unfolding number_of
bytes_below k [] b h = one-le-pow k 256 (omega arith)
bytes_below zero (x ∷ l) b h = absurd (omega arith)
bytes_below (suc k) (x ∷ l) b h =
    let ih = bytes_below k l (λ i. b (suc i)) (omega arith) in
    let x-byte : x < 256 = b 0 in
    rw (pow-suc 256 k) (omega arith)

-- what std writes and reads, at eight bytes
pub low_is : (u : ℕ) → to_le_bytes w64 u ≡ low_bytes 8 u
unfolding low_bytes
low_is u =
    let a : u / 65536 ≡ u / 256 / 256 = omega arith in
    let b : u / 16777216 ≡ u / 256 / 256 / 256 = omega arith in
    let c : u / 4294967296 ≡ u / 256 / 256 / 256 / 256 = omega arith in
    let d : u / 1099511627776 ≡ u / 256 / 256 / 256 / 256 / 256 = omega arith in
    let e : u / 281474976710656 ≡ u / 256 / 256 / 256 / 256 / 256 / 256 = omega arith in
    let f : u / 72057594037927936 ≡ u / 256 / 256 / 256 / 256 / 256 / 256 / 256 = omega arith in
    rw (a, b, c, d, e, f)

pub number_is : (l : List ℕ) → length l ≡ 8 → from_le_bytes w64 l ≡ number_of l
unfolding number_of
number_is (a ∷ b ∷ c ∷ d ∷ e ∷ f ∷ g ∷ h ∷ []) n = omega arith
number_is _ n = omega arith

-- ---- there and back
pub number-low : (n u : ℕ) → u < 256 ^ n → number_of (low_bytes n u) ≡ u
unfolding number_of low_bytes
number-low zero u h = omega arith
number-low (suc n) u h =
    let b : u < 256 ^ n * 256 = rw (pow-suc 256 n) at h in
    let ih : number_of (low_bytes n (u / 256)) ≡ u / 256 = number-low n (u / 256) (omega arith) in
    omega arith

pub low-number : (l : List ℕ) → ((i : ℕ) → get_or l i 0 < 256) → low_bytes (length l) (number_of l) ≡ l
unfolding number_of low_bytes
low-number [] b = refl
low-number (x ∷ l) b =
    let x-byte : x < 256 = b 0 in
    let r : (number_of l * 256 + x) % 256 ≡ x = omega arith in
    let q : (number_of l * 256 + x) / 256 ≡ number_of l = omega arith in
    rw (r, q, low-number l (λ i. b (suc i)))

pub length-low : (n u : ℕ) → length (low_bytes n u) ≡ n
unfolding low_bytes
length-low zero u = refl
length-low (suc n) u = ap suc (length-low n (u / 256))

-- The laws of the packed word: what is packed is unpacked again, and the other way round. Assumes nothing.
use Prim.Native.Nat.{ℕ, zero, suc, ◌+◌, ◌*◌, ◌/◌, ◌%◌, ◌<◌, ◌≤◌}
use native.Mathlib.Omega.{arith}
use mathlib.Core.Path.{◌≡◌, refl}
use mathlib.Core.Bool.{Bool, true, false, cond}
use lib.Dec.{eqb}
use Rattle.layout.specs.declared.word.Content.{Content}
use Rattle.layout.specs.declared.word.Content.TheVariants.{Text, Embed, Mark}
use Rattle.layout.specs.declared.word.Item.{Item}
use Rattle.layout.specs.Word.{what_of, content_from, unpack_of, kind_of, payload_of, flag_of, rest_of, pack_of, relink_of, Fitting}
use Rattle.layout.specs.Chain.{item_from}

-- ---- kinds, payloads and flags
pub kind-lt : (c : Content) → kind_of c < 3
kind-lt (Text s l) = omega arith
kind-lt (Embed n) = omega arith
kind-lt (Mark k v) = omega arith

pub payload_lt : (c : Content) → Fitting c → payload_of c < 4294967296
payload_lt (Text s l) h = omega arith
payload_lt (Embed n) h = h
payload_lt (Mark k v) h = omega arith

pub kind_from : (k p : ℕ) → k < 3 → kind_of (content_from k p) ≡ k
kind_from zero p h = refl
kind_from (suc zero) p h = refl
kind_from (suc (suc zero)) p h = refl
kind_from (suc (suc (suc k))) p h = omega arith

pub payload_from : (k p : ℕ) → payload_of (content_from k p) ≡ p
payload_from k p = go (eqb k 0) (eqb k 1)
  where
    go : (a b : Bool) → payload_of (cond a (Text (p % 16384) (p / 16384)) (cond b (Embed p) (Mark (p % 16) (p / 16)))) ≡ p
    go true b = omega arith
    go false true = refl
    go false false = omega arith

pub fitting_from : (k p : ℕ) → p < 4294967296 → Fitting (content_from k p)
fitting_from k p h = go (eqb k 0) (eqb k 1)
  where
    go : (a b : Bool) → Fitting (cond a (Text (p % 16384) (p / 16384)) (cond b (Embed p) (Mark (p % 16) (p / 16))))
    go true b = omega arith
    go false true = h
    go false false = omega arith

pub content-back : (c : Content) → Fitting c → content_from (kind_of c) (payload_of c) ≡ c
content-back (Text s l) h =
    let e₁ : (s + 16384 * l) % 16384 ≡ s = omega arith in
    let e₂ : (s + 16384 * l) / 16384 ≡ l = omega arith in
    rw (e₁, e₂)
content-back (Embed n) h = refl
content-back (Mark k v) h =
    let e₁ : (k + 16 * v) % 16 ≡ k = omega arith in
    let e₂ : (k + 16 * v) / 16 ≡ v = omega arith in
    rw (e₁, e₂)

pub flag-of : (x : ℕ) → x < 2 → flag_of (eqb x 1) ≡ x
flag-of zero h = refl
flag-of (suc zero) h = refl
flag-of (suc (suc x)) h = omega arith

pub flag-le : (b : Bool) → flag_of b ≤ 1
flag-le true = omega arith
flag-le false = omega arith

pub flag-back : (b : Bool) → eqb (flag_of b) 1 ≡ b
flag-back true = refl
flag-back false = refl

-- ---- the parts of a rest
module _ (c : Content) (d a g : Bool) where
  rest-kind : rest_of c d a g % 4 ≡ kind_of c
  rest-kind = omega (arith, kind-lt c, flag-le d, flag-le a, flag-le g)

  rest-dead : rest_of c d a g / 4 % 2 ≡ flag_of d
  rest-dead = omega (arith, kind-lt c, flag-le d, flag-le a, flag-le g)

  rest-added : rest_of c d a g / 8 % 2 ≡ flag_of a
  rest-added = omega (arith, kind-lt c, flag-le d, flag-le a, flag-le g)

  rest-gone : rest_of c d a g / 16 % 2 ≡ flag_of g
  rest-gone = omega (arith, kind-lt c, flag-le d, flag-le a, flag-le g)

  rest-payload : Fitting c → rest_of c d a g / 32 % 4294967296 ≡ payload_of c
  rest-payload h = omega (arith, kind-lt c, flag-le d, flag-le a, flag-le g, payload_lt c h)

  -- the item that is packed is the item that is read
  pub item-rest : (n : ℕ) → Fitting c → item_from n (rest_of c d a g) ≡ record { num = n; what = what_of c; flags = record { dead = d; added = a; gone = g } }
  item-rest n h = rw (rest-kind, rest-dead, rest-added, rest-gone, rest-payload h, content-back c h, flag-back d, flag-back a, flag-back g)

-- ---- round trips
pub unpack-pack : (it : Item) → it.next < 4096 → Fitting it.content → unpack_of (pack_of it) ≡ it
unpack-pack it b h =
    let c = it.content in
    let d = it.dead in
    let a = it.added in
    let g = it.gone in
    let e : pack_of it / 4096 ≡ rest_of c d a g = omega arith in
    let f : pack_of it % 4096 ≡ it.next = omega arith in
    rw (e, f, rest-kind c d a g, rest-dead c d a g, rest-added c d a g, rest-gone c d a g, rest-payload c d a g h, content-back c h, flag-back d, flag-back a, flag-back g)

-- sums of digits; over plain variables, so that `omega` has no division to open
lin : (q a b c d e f g h : ℕ) → q ≡ a + 4 * b → b ≡ c + 2 * d → d ≡ e + 2 * f → f ≡ g + 2 * h → a + 4 * c + 8 * e + 16 * g + 32 * h ≡ q
lin q a b c d e f g h p₁ p₂ p₃ p₄ = omega arith

digits : (q : ℕ) → q % 4 + 4 * (q / 4 % 2) + 8 * (q / 8 % 2) + 16 * (q / 16 % 2) + 32 * (q / 32) ≡ q
digits q =
    lin q (q % 4) (q / 4) (q / 4 % 2) (q / 8) (q / 8 % 2) (q / 16) (q / 16 % 2) (q / 32) (omega arith) (omega arith) (omega arith) (omega arith)

rest_back : (q : ℕ) → q < 137438953472 → q % 4 < 3 → rest_of (content_from (q % 4) (q / 32 % 4294967296)) (eqb (q / 4 % 2) 1) (eqb (q / 8 % 2) 1) (eqb (q / 16 % 2) 1) ≡ q
rest_back q b k =
    let small : q / 32 % 4294967296 ≡ q / 32 = omega arith in
    rw (
      small,
      kind_from (q % 4) (q / 32) k,
      payload_from (q % 4) (q / 32),
      flag-of (q / 4 % 2) (omega arith),
      flag-of (q / 8 % 2) (omega arith),
      flag-of (q / 16 % 2) (omega arith),
    )
    (digits q)

pub pack-unpack : (w : ℕ) → w < 562949953421312 → w / 4096 % 4 < 3 → pack_of (unpack_of w) ≡ w
pack-unpack w b k = rw (rest_back (w / 4096) (omega arith) k) (omega arith)

-- ---- another link
pub relink-rest : (w n : ℕ) → n < 4096 → relink_of w n / 4096 ≡ w / 4096
relink-rest w n h = omega arith

pub relink-next : (w n : ℕ) → n < 4096 → relink_of w n % 4096 ≡ n
relink-next w n h = omega arith

pub pack-rest : (it : Item) → it.next < 4096 → pack_of it / 4096 ≡ rest_of it.content it.dead it.added it.gone
pack-rest it h = omega arith

pub pack-next : (it : Item) → it.next < 4096 → pack_of it % 4096 ≡ it.next
pack-next it h = omega arith

-- what is unpacked can be packed. The equation is what a caller of `unpack` has, so that w and it are known from it
pub fitting-unpack : (w : ℕ) (it : Item) → it ≡ unpack_of w → Fitting it.content
fitting-unpack w it e = rw e (fitting_from (w / 4096 % 4) (w / 4096 / 32 % 4294967296) (omega arith))

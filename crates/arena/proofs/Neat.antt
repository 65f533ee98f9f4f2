-- Neat words: what is packed is neat, and stays so under another link. Assumes nothing.
use Prim.Native.Nat.{ℕ, suc, ◌+◌, ◌*◌, ◌/◌, ◌%◌, ◌<◌, ◌≤◌}
use native.Mathlib.Omega.{arith}
use mathlib.Core.Path.{◌≡◌, refl, ap, subst⁻¹, ◌∙◌}
use mathlib.Core.Bool.{Bool, true, false}
use mathlib.Core.List.{List}
use lib.ListN.{length, get_or, set}
use lib.Seq.{get_or-set_same, get_or-set_other}
use lib.Dec.{eqb}
use borrow.Author.Tests.{eqb-true, eqb-false}
use Rattle.layout.specs.declared.word.Content.{Content}
use Rattle.layout.specs.declared.word.Content.TheVariants.{Text, Embed, Mark}
use Rattle.layout.specs.declared.word.Item.{Item}
use Rattle.layout.specs.Word.{content_from, unpack_of, kind_of, payload_of, flag_of, rest_of, pack_of, relink_of, Fitting}
use Rattle.layout.proofs.Words.{kind-lt, payload_lt, flag-le, unpack-pack, pack-unpack, pack-rest, relink-rest}
use Rattle.arena.specs.Places.{InRange, Neat}

pub fits : (c : Content) → InRange c → Fitting c
fits (Text s l) h = omega arith
fits (Embed n) h = h
fits (Mark k v) h = omega arith

-- of plain numbers, so that nothing has to be opened
rest_lt : (k d a g p : ℕ) → k < 3 → d ≤ 1 → a ≤ 1 → g ≤ 1 → p < 4294967296 → k + 4 * d + 8 * a + 16 * g + 32 * p < 137438953472
rest_lt k d a g p hk hd ha hg hp = omega arith

rest-kind : (k d a g p : ℕ) → k < 3 → (k + 4 * d + 8 * a + 16 * g + 32 * p) % 4 < 3
rest-kind k d a g p hk = omega arith

pub neat-pack : (it : Item) → it.next < 4096 → InRange it.content → Neat (pack_of it)
neat-pack it l r =
    let c = it.content in
    let d = flag_of it.dead in
    let a = flag_of it.added in
    let g = flag_of it.gone in
    let f = fits c r in
    let q : pack_of it / 4096 ≡ rest_of c it.dead it.added it.gone = pack-rest it l in
    let b = rest_lt (kind_of c) d a g (payload_of c) (kind-lt c) (flag-le it.dead) (flag-le it.added) (flag-le it.gone) (payload_lt c f) in
    record {
      small = omega (arith, b);
      kind = subst⁻¹ (λ (x : ℕ). x % 4 < 3) q (rest-kind (kind_of c) d a g (payload_of c) (kind-lt c));
      range = subst⁻¹ (λ (x : Item). InRange x.content) (unpack-pack it l f) r;
    }

pub neat-relink : (w n : ℕ) → n < 4096 → Neat w → Neat (relink_of w n)
neat-relink w n h t =
    let q : relink_of w n / 4096 ≡ w / 4096 = relink-rest w n h in
    record {
      small = omega (arith, t.small);
      kind = subst⁻¹ (λ (x : ℕ). x % 4 < 3) q t.kind;
      range = subst⁻¹ (λ (x : ℕ). InRange (content_from (x % 4) (x / 32 % 4294967296))) q t.range;
    }

-- a neat word is the word of what it says
pub neat-word : (w : ℕ) → Neat w → pack_of (unpack_of w) ≡ w
neat-word w t = pack-unpack w t.small t.kind

-- ---- the used words of a buffer
pub neat-set : (b x w : ℕ) (m : List ℕ) → x < length m → ((n : ℕ) → n < b → Neat (get_or m n 0)) → Neat w → (n : ℕ) → n < b → Neat (get_or (set m x w) n 0)
neat-set b x w m l all t n h = go (eqb n x) refl
  where
    go : (s : Bool) → eqb n x ≡ s → Neat (get_or (set m x w) n 0)
    go true e = subst⁻¹ Neat (ap (λ (i : ℕ). get_or (set m x w) i 0) (eqb-true n x e) ∙ get_or-set_same m x w 0 l) t
    go false e = subst⁻¹ Neat (get_or-set_other m x n w 0 (eqb-false n x e)) (all n h)

pub neat-new : (b w : ℕ) (m : List ℕ) → b < length m → ((n : ℕ) → n < b → Neat (get_or m n 0)) → Neat w → (n : ℕ) → n < suc b → Neat (get_or (set m b w) n 0)
neat-new b w m l all t n h = go (eqb n b) refl
  where
    go : (s : Bool) → eqb n b ≡ s → Neat (get_or (set m b w) n 0)
    go true e = subst⁻¹ Neat (ap (λ (i : ℕ). get_or (set m b w) i 0) (eqb-true n b e) ∙ get_or-set_same m b w 0 l) t
    go false e =
        let d = eqb-false n b e in
        subst⁻¹ Neat (get_or-set_other m b n w 0 d) (all n (omega arith))

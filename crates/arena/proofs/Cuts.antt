-- A text cut in two. Assumes nothing.
use Prim.Native.Nat.{ℕ, suc, ◌/◌, ◌<◌, ◌≤◌}
use native.Mathlib.Numerals.{add-one}
use native.Mathlib.Omega.{arith}
use mathlib.Core.Path.{◌≡◌, refl, ap, ap₂, subst⁻¹, ◌∙◌}
use mathlib.Core.List.{List, ◌∷◌, ◌++◌}
use lib.ListN.{length, get_or, set, length-set}
use Rattle.rules.specs.Sheet.{Item, like, width}
use Rattle.rules.specs.Places.{left_half, right_half}
use Rattle.layout.specs.declared.head.Head.{Head}
use Rattle.layout.specs.declared.word.Content.{Content}
use Rattle.layout.specs.declared.word.Content.TheVariants.{Text, Embed, Mark}
use Rattle.layout.specs.Word.{what_of, unpack_of, pack_of}
use Rattle.layout.specs.Chain.{END, item_from, item_at, next_at}
use Rattle.layout.proofs.Words.{item-rest, pack-rest, pack-next}
use Rattle.layout.proofs.Links.{Off, Distinct, distinct, off-above}
use Rattle.layout.proofs.Writes.{link-after, after_is, item-is}
use Rattle.arena.specs.Places.{SIZE, InRange, Arena, list_of}
use Rattle.arena.specs.Writes.{left_text, right_text, Within, like_item, cut_mem, cut_head}
use Rattle.arena.proofs.Neat.{fits, neat-pack, neat-set, neat-new}

-- the halves of a text in range are in range
pub record Halves (k : ℕ) (c : Content) : Type 0 where
  pub left : InRange (left_text k c)
  pub right : InRange (right_text k c)
  pub within : Within k c

pub halves : (k : ℕ) (c : Content) → InRange c → 0 < k → k < width (what_of c) → Halves k c
halves k (Text s l) r z w = record { left = omega arith; right = omega arith; within = omega arith }
halves k (Embed n) r z w = absurd (omega arith)
halves k (Mark i v) r z w = absurd (omega arith)

left-what : (k : ℕ) (c : Content) → what_of (left_text k c) ≡ left_half k (what_of c)
left-what k (Text s l) = refl
left-what k (Embed n) = refl
left-what k (Mark i v) = refl

right-what : (k : ℕ) (c : Content) → what_of (right_text k c) ≡ right_half k (what_of c)
right-what k (Text s l) = refl
right-what k (Embed n) = refl
right-what k (Mark i v) = refl

-- what a cut asks of its word
pub cut-halves : (h : Head) (m : List ℕ) (x k : ℕ) → Arena h m → x < h.items → 0 < k → k < width (item_at m x).what → Halves k (unpack_of (get_or m x 0)).content
cut-halves h m x k a l z w = halves k (unpack_of (get_or m x 0)).content (a.neat x l).range z w

pub cut_law : (h : Head) (m : List ℕ) (L : List Item) (x : Item) (R : List Item) (k : ℕ) → Arena h m → h.items < SIZE → list_of h m ≡ L ++ x ∷ R → 0 < k → k < width x.what
    → (g : Head) → g ≡ cut_head h → (j : List ℕ) → j ≡ cut_mem m h.items x.num k
    → Arena g j × (list_of g j ≡ L ++ like x x.num (left_half k x.what) ∷ like x h.items (right_half k x.what) ∷ R)
unfolding cut_mem
cut_law h m L x R k a few e z wide g eg j ej =
    let n = h.items in
    let b : n ≤ END = omega arith in
    let l = x.num in
    let q = after_is n n m h.first L x R b a.walk e in
    let o : Off n (L ++ x ∷ R) = rw e at (off-above n m b n n h.first a.walk (omega arith)) in
    let d : Distinct (L ++ x ∷ R) = rw e at (distinct n m b n h.first a.walk) in
    let xi : item_at m l ≡ x = item-is n m h.first L x R e in
    let it = unpack_of (get_or m l 0) in
    let c = it.content in
    let hs = cut-halves h m l k a q.1 z (subst⁻¹ (λ (y : Item). k < width y.what) xi wide) in
    let ir = like_item it (next_at m l) (right_text k c) in
    let il = like_item it n (left_text k c) in
    let v = pack_of ir in
    let w = pack_of il in
    let small : next_at m l < 4096 = omega arith in
    let room : n < length m = omega (arith, a.long) in
    let l-room : l < length (set m n v) = simp length-set (omega (arith, q.1)) in
    let s = link-after m n l v w room b q.1 (pack-next il (omega arith)) (pack-next ir small) L x R n h.first e a.walk d o refl in
    let left : item_from l (w / 4096) ≡ like x l (left_half k x.what) =
    ap (item_from l) (pack-rest il (omega arith)) ∙ item-rest (left_text k c) it.dead it.added it.gone l (fits (left_text k c) hs.left) ∙ ap (like (item_at m l) l) (left-what k c) ∙ ap (λ (y : Item). like y l (left_half k y.what)) xi in
    let right : item_from n (v / 4096) ≡ like x n (right_half k x.what) =
    ap (item_from n) (pack-rest ir small) ∙ item-rest (right_text k c) it.dead it.added it.gone n (fits (right_text k c) hs.right) ∙ ap (like (item_at m l) n) (right-what k c) ∙ ap (λ (y : Item). like y n (right_half k y.what)) xi in
    rw (eg, ej, add-one) (
      record {
        long = simp length-set a.long;
        few = few;
        walk = s.0;
        neat = neat-set (suc n) l w (set m n v) l-room (neat-new n v m room a.neat (neat-pack ir small hs.right)) (neat-pack il (omega arith) hs.left);
      },
      s.1 ∙ ap₂ (λ (y u : Item). L ++ y ∷ u ∷ R) left right,
    )

-- An item put between two others: the links stay sound, the words neat, and the new item stands between the parts of the list. Assumes nothing.
use Prim.Native.Nat.{ℕ, suc, ◌/◌, ◌<◌, ◌≤◌}
use native.Mathlib.Numerals.{add-one}
use native.Mathlib.Omega.{arith}
use mathlib.Core.Path.{◌≡◌, refl, sym, ap, ap₂, ◌∙◌}
use mathlib.Core.Bool.{true, false}
use mathlib.Core.List.{List, [], ◌∷◌, ◌++◌, append_assoc}
use lib.ListN.{length, get_or, set, length-set}
use lib.Dec.{eqb}
use borrow.Author.Tests.{ne_eqb}
use Rattle.rules.specs.Sheet.{Item, new}
use Rattle.layout.specs.declared.head.Head.{Head}
use Rattle.layout.specs.declared.word.Content.{Content}
use Rattle.layout.specs.Word.{what_of, pack_of, relink_of}
use Rattle.layout.specs.Chain.{END, item_from, chain, head_or, last_or}
use Rattle.layout.proofs.Words.{item-rest, pack-rest, pack-next, relink-rest, relink-next}
use Rattle.layout.proofs.Links.{Off, Distinct, distinct, off-above, head-is}
use Rattle.layout.proofs.Writes.{link-after, link-front, last_of, after_is, item-is, start-le}
use Rattle.arena.specs.Places.{SIZE, Linkable, InRange, Arena, list_of}
use Rattle.arena.specs.Writes.{fresh_item, front_mem, after_mem, put_mem, put_head}
use Rattle.arena.proofs.Neat.{fits, neat-pack, neat-relink, neat-set, neat-new}

fresh-item : (n r : ℕ) (c : Content) → r ≤ END → InRange c → item_from n (pack_of (fresh_item c r) / 4096) ≡ new n (what_of c)
fresh-item n r c h t = ap (item_from n) (pack-rest (fresh_item c r) (omega arith)) ∙ item-rest c false true false n (fits c t)

-- the left neighbour is an item of the copy, or none
pub left_linkable : (h : Head) (m : List ℕ) (L R : List Item) → Arena h m → list_of h m ≡ L ++ R → Linkable (last_or END L)
unfolding last_or
left_linkable h m [] R a e = λ (n : END ≡ END → ⊥). absurd (n refl)
left_linkable h m (x ∷ L) R a e =
    let i = last_of x L in
    let b = after_is h.items h.items m h.first i.front i.last R (omega (arith, a.few)) a.walk (e ∙ ap (λ (ys : List Item). ys ++ R) i.whole ∙ append_assoc i.front (i.last ∷ []) R) in
    λ n. omega (arith, b.1, i.number, a.few)

pub put_law : (h : Head) (m : List ℕ) (c : Content) (L R : List Item) → Arena h m → h.items < SIZE → InRange c → list_of h m ≡ L ++ R
    → (g : Head) → g ≡ put_head h (last_or END L) → (k : List ℕ) → k ≡ put_mem m h.items (last_or END L) (head_or R) c
    → Arena g k × (list_of g k ≡ L ++ new h.items (what_of c) ∷ R)
unfolding last_or front_mem after_mem
put_law h m c [] R a few t e g eg k ek =
    let n = h.items in
    let b : n ≤ END = omega arith in
    let r-is : head_or R ≡ h.first = ap head_or (sym e) ∙ head-is n m b n h.first a.walk in
    let link = start-le n n m h.first b a.walk in
    let v = pack_of (fresh_item c h.first) in
    let room : n < length m = omega (arith, a.long) in
    let w = link-front m n v room n h.first (pack-next (fresh_item c h.first) (omega arith)) a.walk (off-above n m b n n h.first a.walk (omega arith)) in
    rw (eg, ek, add-one, r-is) (
      record {
        long = simp length-set a.long;
        few = few;
        walk = w.0;
        neat = neat-new n v m room a.neat (neat-pack (fresh_item c h.first) (omega arith) t);
      },
      w.1 ∙ ap₂ ◌∷◌ (fresh-item n h.first c link t) e,
    )
put_law h m c (x ∷ L) R a few t e g eg k ek =
    let n = h.items in
    let b : n ≤ END = omega arith in
    let i = last_of x L in
    let l = i.last.num in
    let e' : chain n m h.first ≡ i.front ++ i.last ∷ R = e ∙ ap (λ (ys : List Item). ys ++ R) i.whole ∙ append_assoc i.front (i.last ∷ []) R in
    let q = after_is n n m h.first i.front i.last R b a.walk e' in
    let o : Off n (i.front ++ i.last ∷ R) = rw e' at (off-above n m b n n h.first a.walk (omega arith)) in
    let d : Distinct (i.front ++ i.last ∷ R) = rw e' at (distinct n m b n h.first a.walk) in
    let room : n < length m = omega (arith, a.long) in
    let w = relink_of (get_or m l 0) n in
    let it = fresh_item c (head_or R) in
    let v = pack_of it in
    let small : head_or R < 4096 = omega (arith, q.2) in
    let s = link-after m n l v w room b q.1 (relink-next (get_or m l 0) n (omega arith)) (pack-next it small ∙ q.0) i.front i.last R n h.first e' a.walk d o refl in
    let f : eqb l END ≡ false = ne_eqb l END (omega (arith, q.1)) in
    let old : item_from l (w / 4096) ≡ i.last = ap (item_from l) (relink-rest (get_or m l 0) n (omega arith)) ∙ item-is n m h.first i.front i.last R e' in
    let fresh : item_from n (v / 4096) ≡ new n (what_of c) = fresh-item n (head_or R) c q.2 t in
    let whole : i.front ++ i.last ∷ new n (what_of c) ∷ R ≡ x ∷ L ++ new n (what_of c) ∷ R = sym (append_assoc i.front (i.last ∷ []) (new n (what_of c) ∷ R)) ∙ ap (λ (ys : List Item). ys ++ new n (what_of c) ∷ R) (sym i.whole) in
    let l-room : l < length (set m n v) = simp length-set (omega (arith, q.1)) in
    rw (eg, ek, add-one, i.number, f) (
      record {
        long = simp length-set a.long;
        few = few;
        walk = s.0;
        neat = neat-set (suc n) l w (set m n v) l-room (neat-new n v m room a.neat (neat-pack it small t)) (neat-relink (get_or m l 0) n (omega arith) (a.neat l q.1));
      },
      s.1 ∙ ap₂ (λ (y z : Item). i.front ++ y ∷ z ∷ R) old fresh ∙ whole,
    )

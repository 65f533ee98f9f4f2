-- An item deleted, anywhere in the list. Assumes nothing.
use Prim.Native.Nat.{ℕ, ◌/◌, ◌%◌, ◌<◌, ◌≤◌}
use native.Mathlib.Omega.{arith}
use mathlib.Core.Path.{◌≡◌, refl, sym, ap, ◌∙◌}
use mathlib.Core.Bool.{true}
use mathlib.Core.List.{List, [], ◌∷◌, ◌++◌, map}
use lib.ListN.{length, get_or, length-set}
use borrow.Author.Tests.{eq-eqb, ne_eqb}
use Rattle.rules.specs.Sheet.{Item, kill}
use Rattle.layout.specs.declared.head.Head.{Head}
use Rattle.layout.specs.Word.{unpack_of, pack_of}
use Rattle.layout.specs.Chain.{END, item_from, item_at, next_at, edit_at}
use Rattle.layout.proofs.Words.{item-rest, pack-rest, pack-next, fitting-unpack}
use Rattle.layout.proofs.Links.{Off, Distinct, distinct}
use Rattle.layout.proofs.Writes.{edit-chain, edit-walks, after_is, off_mid}
use Rattle.arena.specs.Places.{Arena, list_of}
use Rattle.arena.specs.Writes.{killed_item, kill_mem}
use Rattle.arena.proofs.Neat.{neat-pack, neat-set}

-- a change of an item that occurs once
off-map : (g : Item → Item) (i : ℕ) (R : List Item) → Off i R → map (edit_at i g) R ≡ R
unfolding edit_at
off-map g i [] o = refl
off-map g i (y ∷ R) o = rw (ne_eqb y.num i (λ (e : y.num ≡ i). o.0 (sym e))) (ap (λ (ys : List Item). y ∷ ys) (off-map g i R o.1))

pub edit_mid : (g : Item → Item) (L : List Item) (x : Item) (R : List Item) → Distinct (L ++ x ∷ R) → map (edit_at x.num g) (L ++ x ∷ R) ≡ L ++ g x ∷ R
unfolding edit_at
edit_mid g [] x R d = rw (eq-eqb x.num x.num refl) (ap (λ (ys : List Item). g x ∷ ys) (off-map g x.num R d.0))
edit_mid g (y ∷ L) x R d = rw (ne_eqb y.num x.num (off_mid y.num L x R d.0)) (ap (λ (ys : List Item). y ∷ ys) (edit_mid g L x R d.1))

pub kill_law : (h : Head) (m : List ℕ) (L : List Item) (x : Item) (R : List Item) → Arena h m → list_of h m ≡ L ++ x ∷ R → (k : List ℕ) → k ≡ kill_mem m x.num
    → Arena h k × (list_of h k ≡ L ++ kill x ∷ R)
kill_law h m L x R a e k ek =
    let n = h.items in
    let b : n ≤ END = omega (arith, a.few) in
    let i = x.num in
    let q = after_is n n m h.first L x R b a.walk e in
    let room : i < length m = omega (arith, q.1, a.few, a.long) in
    let it = unpack_of (get_or m i 0) in
    let w = pack_of (killed_item it) in
    let next : w % 4096 ≡ next_at m i = pack-next (killed_item it) (omega arith) in
    let item : item_from i (w / 4096) ≡ kill (item_at m i) = ap (item_from i) (pack-rest (killed_item it) (omega arith)) ∙ item-rest it.content true it.added true i (fitting-unpack (get_or m i 0) it refl) in
    let d : Distinct (L ++ x ∷ R) = rw e at (distinct n m b n h.first a.walk) in
    rw ek (
      record {
        long = simp length-set a.long;
        few = a.few;
        walk = edit-walks m i w room next kill item n n h.first ∙ a.walk;
        neat = neat-set n i w m room a.neat (neat-pack (killed_item it) (omega arith) (a.neat i q.1).range);
      },
      edit-chain m i w room next kill item n h.first ∙ ap (map (edit_at i kill)) e ∙ edit_mid kill L x R d,
    )

-- The laws of a place: what stands left and right of it, as the links give it. Assumes nothing.
use Prim.Native.Nat.{ℕ, zero, suc, ◌+◌, ◌-◌, ◌<◌, ◌≤◌}
use native.Mathlib.Omega.{arith}
use mathlib.Core.Path.{◌≡◌, sym, ap, ap₂, ◌∙◌}
use mathlib.Core.Bool.{true}
use mathlib.Core.List.{List, [], ◌∷◌, ◌++◌}
use lib.ListN.{length, get_or, take, drop, length-append, length-drop, take-append-drop}
use lib.Seq.{take_at, drop_at}
use Rattle.rules.specs.Sheet.{Item}
use Rattle.layout.specs.declared.head.Head.{Head}
use Rattle.layout.specs.Chain.{END, item_at, next_at, chain, walks, head_or, last_or}
use Rattle.layout.proofs.Links.{walks_parts, walks-lt, head-is, length-chain, chain-step}
use Rattle.layout.proofs.Writes.{no-cons}
use Rattle.arena.specs.declared.Place.{Place}
use Rattle.arena.specs.Places.{Neat, Arena, list_of, left_of, right_of, placed, in_force, Standing}

-- ---- a place by the lists beside it
pub parts : (h : Head) (m : List ℕ) (p : Place) → list_of h m ≡ left_of h m p ++ right_of h m p
parts h m p = sym (take-append-drop (h.items - p.todo) (list_of h m))

-- the place at a split of the list
pub record Stands (h : Head) (m : List ℕ) (p : Place) (A B : List Item) : Type 0 where
  pub stands : Standing h m p
  pub at : placed h m p ≡ record { left = A; right = B; next = h.items }

pub stand : (h : Head) (m : List ℕ) (p : Place) (A B : List Item) → Arena h m → list_of h m ≡ A ++ B → p.todo ≡ length B → p.left ≡ last_or END A → p.right ≡ head_or B → p.force ≡ in_force A
    → Stands h m p A B
stand h m p A B a e t l r f =
    let n : h.items ≡ length A + length B = sym (length-chain h.items m h.first) ∙ ap length e ∙ length-append A B in
    let k : length A ≡ h.items - p.todo = omega arith in
    let el : left_of h m p ≡ A = ap (take (h.items - p.todo)) e ∙ take_at A B (h.items - p.todo) k in
    let er : right_of h m p ≡ B = ap (drop (h.items - p.todo)) e ∙ drop_at A B (h.items - p.todo) k in
    record {
      stands = record { arena = a; todo = omega arith; left = l ∙ ap (last_or END) (sym el); right = r ∙ ap head_or (sym er); force = f ∙ ap in_force (sym el) };
      at = ap₂ (λ (x y : List Item). record { left = x; right = y; next = h.items }) el er;
    }

-- ---- the last part of a sound list is a sound walk
pub suffix : (b f : ℕ) (m : List ℕ) (s : ℕ) (L R : List Item) → b ≤ END → walks b f m s ≡ true → chain f m s ≡ L ++ R → (walks b (length R) m (head_or R) ≡ true) × (chain (length R) m (head_or R) ≡ R)
unfolding chain
suffix b f m s [] R h p e =
    let n : f ≡ length R = sym (length-chain f m s) ∙ ap length e in
    let t : s ≡ head_or R = sym (head-is b m h f s p) ∙ ap head_or e in
    rw (← n, ← t) (p, e)
suffix b zero m s (y ∷ L) R h p e = absurd (no-cons e)
suffix b (suc f) m s (y ∷ L) R h p e = suffix b f m (next_at m s) L R h (walks_parts b f m s p).1 cc

module _ {h : Head} {m : List ℕ} {p : Place} (s : Standing h m p) where
  pub length-right : length (right_of h m p) ≡ p.todo
  length-right = length-drop (h.items - p.todo) (list_of h m) ∙ omega (arith, length-chain h.items m h.first, s.todo)

  pub right-walk : (walks h.items p.todo m p.right ≡ true) × (chain p.todo m p.right ≡ right_of h m p)
  right-walk =
      let a = s.arena in
      let w = suffix h.items h.items m h.first (left_of h m p) (right_of h m p) (omega (arith, a.few)) a.walk (parts h m p) in (
        ap₂ (λ (i j : ℕ). walks h.items i m j) (sym length-right) s.right ∙ w.0,
        ap₂ (λ (i j : ℕ). chain i m j) (sym length-right) s.right ∙ w.1,
      )

  -- the end of the list
  pub none_here : p.todo ≤ 0 → right_of h m p ≡ []
  unfolding chain
  none_here z =
      let e : p.todo ≡ 0 = omega arith in
      sym right-walk.1 ∙ ap (λ (k : ℕ). chain k m p.right) e

  module _ (more : 0 < p.todo) where
    -- the item right of the place
    pub right_lt : (p.right < h.items) × (p.right < length m)
    right_lt =
        let l = walks-lt h.items p.todo m p.right more right-walk.0 in
        omega (arith, l, s.arena.few, s.arena.long)

    pub item-here : right_of h m p ≡ item_at m p.right ∷ chain (p.todo - 1) m (next_at m p.right)
    item-here = sym right-walk.1 ∙ chain-step p.todo m p.right more

    pub neat-here : Neat (get_or m p.right 0)
    neat-here = s.arena.neat p.right right_lt.0

  -- a place with a known item right of it
  pub here-is : (i : Item) (l : List Item) → right_of h m p ≡ i ∷ l → (0 < p.todo) × (item_at m p.right ≡ i)
  here-is i l e =
      let n = sym length-right ∙ ap length e in
      let more : 0 < p.todo = omega arith in
      let u = item-here more in
      (more, cc)

-- Settle and Open, seen by any key: what format and insertion have in common. What is remembered, laid over the value now in force,
-- is the value that was in force in the old list (`Inv`); whatever follows has only to keep that.
use Prim.Native.Nat.{ℕ, ◌+◌}
use mathlib.Core.Path.{◌≡◌, refl, sym, ap, subst}
use mathlib.Core.Bool.{Bool, true, false, cond, not, false≢true}
use mathlib.Core.List.{List, []}
use lib.Dec.{eqb}
use lib.ListN.{length}
use borrow.Author.Tests.{eqb-true}
use Rattle.sets.specs.Sets.{Slot, absent, is, is_absent, Set, Env, keys, lay, differs, opened, former}
use Rattle.rules.specs.Sheet.{Item}
use Rattle.rules.specs.Reading.{live, Cell, cells, force}
use Rattle.rules.specs.Places.{Move, after, settle, marks, put_marks}
use Rattle.rules.specs.Edits.{opening, settled}
use Rattle.laws.proofs.Lists.{In}
use Rattle.laws.proofs.Places.{Reads, reads_end, reads_then, settle-reads, settle-keeps, put_marks-reads, marks-set}

-- what the set and what is remembered say of the value now and the value in the old list
pub record Inv (a r : Slot) (old now : ℕ) : Type 0 where
  pub owed : lay r now ≡ old
  pub laid : now ≡ lay a old
  pub only : a ≡ absent → r ≡ absent

pub differs_owed : (a : Slot) (e : ℕ) → Inv a (cond (differs a e) (is e) absent) e (lay (cond (differs a e) a absent) e)
differs_owed absent e = record { owed = refl; laid = refl; only = λ h. refl }
differs_owed (is w) e = go (eqb w e) refl
  where
    go : (b : Bool) → eqb w e ≡ b → Inv (is w) (cond (not b) (is e) absent) e (lay (cond (not b) (is w) absent) e)
    go true q = record { owed = refl; laid = sym (eqb-true w e q); only = λ h. refl }
    go false q = record { owed = refl; laid = refl; only = λ h. absurd (false≢true (ap is_absent h)) }

-- What follows Settle and Open has to show x and y of the cells as they were (v in force), where now is in force and r is remembered.
pub settled-reads : (j : ℕ) → In j keys → (a : Set) (f : Set → Move) (e : Env) (l : List Item) (m : ℕ) (x y : List Cell → List Cell)
    → ((v now : ℕ) (r : Set) (e₂ : Env) (l₂ : List Item) (m₂ : ℕ) → (a j ≡ absent → v ≡ e j) → Inv (a j) (r j) v now → Reads j now (f r e₂ l₂ m₂) (x (cells live j v l₂)) (y (cells live j v l₂)) (force live j v l₂))
    → Reads j (e j) (settled a f e l m) (x (cells live j (e j) l)) (y (cells live j (e j) l)) (force live j (e j) l)
settled-reads j jk a f e l m x y h =
    reads_then j (e j) e (settle a l m) (opening a f) [] cs (x cs) (y cs)
    (settle-reads j a l m (e j))
    (reads_then j v e₁ (put_marks (opened a e₁) r q) (f (former a e₁)) [] _ (x cs) (y cs)
    (put_marks-reads j (opened a e₁) r q v jk)
    (reads_end (settle-reads j a l m (e j)).end
    (subst (λ (z : List Cell). Reads j now (f (former a e₁) e₂ r q') (x z) (y z) (force live j v r)) (settle-reads j a l m (e j)).right
    (h v now (former a e₁) e₂ r q' (settle-keeps j a l m (e j))
    (subst (λ (z : ℕ). Inv (a j) (former a e₁ j) v z) (sym (marks-set j keys (opened a e₁) q v jk)) (differs_owed (a j) v))))))
  where
    cs : List Cell
    cs = cells live j (e j) l

    e₁ : Env
    e₁ = after e (settle a l m).left

    v : ℕ
    v = force live j (e j) (settle a l m).left

    r : List Item
    r = (settle a l m).right

    q : ℕ
    q = (settle a l m).next

    e₂ : Env
    e₂ = after e₁ (marks keys (opened a e₁) q)

    q' : ℕ
    q' = q + length (marks keys (opened a e₁) q)

    now : ℕ
    now = force live j v (marks keys (opened a e₁) q)

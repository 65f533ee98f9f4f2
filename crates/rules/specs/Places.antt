-- Places, and the moves that every edit is made of: Place, Settle, putting, Close.
use Rattle.std.specs.Prelude.{ℕ, zero, suc, ◌+◌, ◌-◌, Bool, false, cond, ◌||◌, List, [], ◌∷◌, ◌++◌, leb, length}
use Rattle.sets.specs.Sets.{Slot, absent, is, Set, Env, keys, at, slot_is}
use Rattle.rules.specs.Sheet.{What, text, embed, mark, Item, dead, like, new, width}
use Rattle.rules.specs.Reading.{live, force}

-- A place: the list left and right of it, and the next unused number.
pub record At : Type 0 where
  pub left : List Item
  pub right : List Item
  pub next : ℕ

abbrev pub whole : At → List Item
whole p = p.left ++ p.right

-- here, with nothing passed
abbrev pub stay : List Item → ℕ → At
stay l m = record { left = []; right = l; next = m }

-- the place further right by one item
abbrev pub over : Item → At → At
over i p = record { left = i ∷ p.left; right = p.right; next = p.next }

-- A move: from what is in force, what stands right and the next number, to the place reached.
abbrev pub Move : Type 0
Move = Env → List Item → ℕ → At

-- what is in force right of a list
abbrev pub after : Env → List Item → Env
after e l k = force live k (e k) l

-- a move made from a place that was reached
abbrev pub and_then : Env → At → Move → At
and_then e p f =
    let q = f (after e p.left) p.right p.next in
    record { left = p.left ++ q.left; right = q.right; next = q.next }

-- Where a count of n ends in a text, in units: each unit counts one.
abbrev pub cut_at : ℕ → ℕ
cut_at n = n

-- Rule Split: a text is cut where a count ends; its left part stays the old item, its right part becomes a new item
-- with the next unused number. State and flags are the same on both.
abbrev pub left_half : ℕ → What → What
left_half n (text s m) = text s (cut_at n)
left_half n (embed e) = embed e
left_half n (mark k v) = mark k v

abbrev pub right_half : ℕ → What → What
right_half n (text s m) = text (s + cut_at n) (m - cut_at n)
right_half n (embed e) = embed e
right_half n (mark k v) = mark k v

abbrev pub split : ℕ → Item → List Item → ℕ → At
split n i l m = over (like i i.num (left_half n i.what)) (stay (like i m (right_half n i.what) ∷ l) (suc m))

-- how much of an index an item uses up: a deleted one nothing
abbrev pub uses : Item → ℕ
uses i = cond (dead i) 0 (width i.what)

-- Rule Place: go right, taking each item's use off the index, and stand still as soon as it is 0, so left of marks and
-- deleted items that follow; a text that is longer than what is left is split. With too large an index the place is the list's end.
abbrev pub place : ℕ → List Item → ℕ → At
place n [] m = stay [] m
place zero (i ∷ l) m = stay (i ∷ l) m
place (suc n) (i ∷ l) m =
    let on = over i (place (suc n - uses i) l m) in
    let cut = split (suc n) i l m in
    cond (leb (uses i) (suc n)) on cut

-- Is it a mark whose key the set has, with this value?
abbrev pub agrees : Set → What → Bool
agrees a (text s n) = false
agrees a (embed e) = false
agrees a (mark k v) = slot_is (a k) v

-- Rule Settle: go past what is deleted and past live marks that the set says too; stand still left of anything else.
abbrev pub settle : Set → List Item → ℕ → At
settle a [] m = stay [] m
settle a (i ∷ l) m =
    let on = over i (settle a l m) in
    cond (dead i || agrees a i.what) on (stay (i ∷ l) m)

-- marks for a set, by ascending key, numbered from m
abbrev pub mark_for : ℕ → Slot → (ℕ → List Item) → ℕ → List Item
mark_for k absent more m = more m
mark_for k (is v) more m = new m (mark k v) ∷ more (suc m)

abbrev pub marks : List ℕ → Set → ℕ → List Item
marks [] a m = []
marks (k ∷ ks) a m = mark_for k (a k) (marks ks a) m

-- Putting moves the place past what was put.
abbrev pub put : List Item → List Item → ℕ → At
put new l m = record { left = new; right = l; next = m + length new }

abbrev pub put_marks : Set → List Item → ℕ → At
put_marks a l m = put (marks keys a m) l m

-- the set without a mark's key
abbrev pub forget : What → Set → Set
forget (text s n) a = a
forget (embed e) a = a
forget (mark k v) a = at k absent a

-- Rule Close: what is remembered has to be in force again. A live mark that says just that does it for its key, which is
-- then struck off; deleted items are passed too. At the first other item the keys that are left get their marks.
abbrev pub close : Set → List Item → ℕ → At
close r [] m = put_marks r [] m
close r (i ∷ l) m =
    let pass = over i (close r l m) in
    let drop = over i (close (forget i.what r) l m) in
    let stop = put_marks r (i ∷ l) m in
    cond (dead i) pass (cond (agrees r i.what) drop stop)

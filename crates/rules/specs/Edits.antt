-- The edits, as moves from a place, and by index.
use Rattle.std.specs.Prelude.{ℕ, zero, suc, ◌-◌, Bool, false, cond, not, ◌&&◌, ◌||◌, List, [], ◌∷◌, ◌++◌, map, eqb, leb, ltb}
use Rattle.sets.specs.Sets.{absent, is, Set, empty, Env, none, keys, at, is_absent, bare, is_none, slot_is, opened, former, completed}
use Rattle.rules.specs.Sheet.{What, text, embed, mark, Item, dead, new, kill, width, is_mark}
use Rattle.rules.specs.Places.{At, stay, over, Move, after, and_then, split, place, settle, put_marks, put, close}

-- an edit by index: Place, then the move
abbrev pub by_index : ℕ → Move → List Item → ℕ → At
by_index n f l m = and_then none (place n l m) f

-- put one new item
abbrev pub put_new : What → Move
put_new w e l m = put (new m w ∷ []) l m

-- Rule Plain text: past deleted items, and no mark. So it takes what is in force left of it.
abbrev pub plain_text : What → Move
plain_text w e l m = and_then e (settle empty l m) (put_new w)

-- Rule Plain embed: right at the place; deleted items stay to its right.
abbrev pub plain_embed : What → Move
plain_embed w = put_new w

-- Rule Open: marks for the keys of the set whose value is another than the one in force; the values in force of
-- those keys (null for none) are remembered and handed to the next move.
abbrev pub opening : Set → (Set → Move) → Move
opening a f e l m = and_then e (put_marks (opened a e) l m) (f (former a e))

-- Settle, Open, and on
abbrev pub settled : Set → (Set → Move) → Move
settled a f e l m = and_then e (settle a l m) (opening a f)

abbrev pub closing : Set → Move
closing r e l m = close r l m

-- Rule Text or embed with A: A is completed by a null for each key that is in force and not in A; then Settle, Open,
-- the new item, Close. So the new item has exactly A, and what follows has what it had.
abbrev pub put_close : What → Set → Move
put_close w r e l m = and_then e (put_new w e l m) (closing r)

abbrev pub insert_with : What → Set → Move
insert_with w a e l m = settled (completed a e) (put_close w) e l m

-- Is it a mark whose key the set has?
abbrev pub key_in : Set → What → Bool
key_in a (text s n) = false
key_in a (embed e) = false
key_in a (mark k v) = not (is_absent (a k))

-- What is remembered after a mark of a key of A: nothing for it if the mark says the same as A, else the mark's value.
abbrev pub remember : Set → What → Set → Set
remember a (text s n) r = r
remember a (embed e) r = r
remember a (mark k v) r = at k (cond (slot_is (a k) v) absent (is v)) r

-- The walk goes on while length is left; and with none left, over marks and deleted items, as long as anything is remembered.
abbrev pub walks_on : ℕ → Set → Item → Bool
walks_on n r i = ltb 0 n || (not (bare keys r) && (dead i || is_mark i.what))

-- Rule Format, its walk: live marks of A's keys on the way are deleted and remembered as above; a text that is longer than
-- what is left is split, and the walk ends there; it ends at the list's end too. Then Close.
abbrev pub format_walk : Set → ℕ → Set → List Item → ℕ → At
format_walk a n r [] m = close r [] m
format_walk a n r (i ∷ l) m =
    let stop = close r (i ∷ l) m in
    let pass = over i (format_walk a n r l m) in
    let marked = over (kill i) (format_walk a n (remember a i.what r) l m) in
    let through = over i (format_walk a (n - width i.what) r l m) in
    let cut = and_then none (split n i l m) (closing r) in
    cond (walks_on n r i)
    (cond (dead i) pass
    (cond (key_in a i.what) marked
    (cond (leb (width i.what) n) through cut)))
    stop

abbrev pub walking : Set → ℕ → Set → Move
walking a n r e l m = format_walk a n r l m

-- Rule Format, from its place: Settle, Open, the walk.
abbrev pub format : Set → ℕ → Move
format a n = settled a (walking a n)

-- Rule Remove, the deletion: the next n live units, past marks and past what is deleted; the last text is split if it is longer.
abbrev pub kill_units : ℕ → List Item → ℕ → At
kill_units n [] m = stay [] m
kill_units zero (i ∷ l) m = stay (i ∷ l) m
kill_units (suc n) (i ∷ l) m =
    let pass = over i (kill_units (suc n) l m) in
    let through = over (kill i) (kill_units (suc n - width i.what) l m) in
    let cut = split (suc n) i l m in
    let cut_killed : At = record { left = map kill cut.left; right = cut.right; next = cut.next } in
    cond (dead i || is_mark i.what) pass
    (cond (leb (width i.what) (suc n)) through cut_killed)

-- Rule Tidy, its end: from where the deletion stopped, past marks only. A deleted text or embed ends it too.
abbrev pub to_end : List Item → ℕ → At
to_end [] m = stay [] m
to_end (i ∷ l) m = let on = over i (to_end l m) in cond (is_mark i.what) on (stay (i ∷ l) m)

-- A mark does nothing there if its value is not the one in force at the end, or is the one in force at the place (s).
abbrev pub idle : Env → Env → What → Bool
idle s e (text u n) = false
idle s e (embed x) = false
idle s e (mark k v) = not (eqb v (e k)) || eqb v (s k)

-- Rule Tidy: the live marks from the place to the end that do nothing are deleted. The place after it is where the deletion stopped.
abbrev pub tidy_item : Env → Env → Item → Item
tidy_item s e i = cond (not (dead i) && idle s e i.what) (kill i) i

abbrev pub tidy : Env → At → At
tidy s p =
    let q = to_end p.right p.next in
    let e = after s (p.left ++ q.left) in
    record { left = map (tidy_item s e) p.left; right = map (tidy_item s e) q.left ++ q.right; next = p.next }

-- Rule Deleted, in a delta: it tidies whatever is in force. A length of 0 does nothing.
abbrev pub delete_here : ℕ → Move
delete_here zero e l m = stay l m
delete_here (suc n) e l m = tidy e (kill_units (suc n) l m)

-- Rule Remove, from its place: it tidies only if something is in force there.
abbrev pub remove_here : ℕ → Move
remove_here n e l m = let p = kill_units n l m in let q = tidy e p in cond (is_none keys e) p q

-- Rule Remove, by index. A length of 0 does not even split at the index.
abbrev pub remove : ℕ → ℕ → List Item → ℕ → At
remove i zero l m = stay l m
remove i (suc n) l m = by_index i (remove_here (suc n)) l m

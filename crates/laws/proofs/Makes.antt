-- What every move and every call makes: how many new items (at most 33 from a place, 34 by index, 33 for each operation of a delta),
-- as many as numbers are taken, each number once, and all of them below the next one.
use Prim.Native.Nat.{ℕ, zero, suc, ◌+◌, ◌*◌, ◌≤◌}
use mathlib.Core.Path.{◌≡◌, refl, sym, ap, subst}
use mathlib.Core.Bool.{Bool, true, false, cond}
use mathlib.Core.List.{List, [], ◌∷◌, ◌++◌, append_assoc}
use native.Mathlib.Omega.{arith}
use lib.ListN.{length, length-append}
use Rattle.sets.specs.Sets.{Set, Env, none, empty, keys, is_none}
use Rattle.rules.specs.Sheet.{What, text, embed, mark, Item}
use Rattle.rules.specs.Reading.{Glyph, seen_glyphs, Op, insert, delete, retain}
use Rattle.rules.specs.Places.{At, whole, stay, Move, after, and_then, place}
use Rattle.rules.specs.Edits.{by_index, plain_text, plain_embed, insert_with, format, kill_units, tidy, delete_here, remove_here, remove}
use Rattle.rules.specs.Delta.{Given, new_text, new_embed, move, carry_out, delta}
use Rattle.rules.specs.Calls.{begin_now, Sheet, Body, words, object, Call, insert_text, insert_text_with, insert_embed, insert_embed_with, format_range, remove_range, apply_delta, laid_out, call}
use Rattle.rules.specs.Rulings.{Within, text_ruling, ruling, Edit}
use Rattle.rules.specs.Sound.{occurs}
use Rattle.rules.specs.Counts.{AllBelow, Makes, most_new}
use Rattle.laws.proofs.Grown.{Grown, Fresh, embeds, texts, grown-count, grown-next, grown-below}
use Rattle.laws.proofs.Steps.{FineWhat, FineList, Anyway, Growing, Cuttable, place-grows, plain_text-grows, plain_embed-grows, insert-grows}
use Rattle.laws.proofs.Growth.{format-grows, delete-grows, remove_here-grows}
use Rattle.laws.proofs.Sound.{grown-once}
use Rattle.laws.proofs.Calls.{call_cases}
use Rattle.laws.proofs.Room.{place-next, settle-next, insert-next, format-next, kill-next}

-- every move is made of steps; nothing is asked of values, cuts or new items here
abbrev Any : ℕ → Type 0
Any v = Unit {0}

abbrev New : What → Type 0
New w = Unit {0}

any-what : (w : What) → FineWhat Any w
any-what (text s n) = tt
any-what (embed x) = tt
any-what (mark k v) = tt

any-list : (l : List Item) → FineList Any l
any-list [] = tt
any-list (i ∷ l) = (any-what i.what, any-list l)

steps-make : {l : List Item} {m u u' k : ℕ} (p : At) → Grown Any Any New l m u (whole p) p.next u' → p.next ≤ m + k → Makes l m p k
steps-make p g h = record { most = h; least = grown-next g; count = grown-count g; under = grown-below g; once = λ j. grown-once j g }

-- a move that makes at most k items from any place
abbrev pub MakesAll : Move → ℕ → Type 0
MakesAll f k = (e : Env) (l : List Item) (m : ℕ) → Makes l m (f e l m) k

makes_all : {u u' : ℕ} (f : Move) (H : List Glyph → Type 0) (k : ℕ) → ((gs : List Glyph) → H gs) → Growing Any Any New f H u u' → ((e : Env) (l : List Item) (m : ℕ) → (f e l m).next ≤ m + k) → MakesAll f k
makes_all f H k hh g h e l m = steps-make (f e l m) (g e l m (λ k. tt) (any-list l) (hh (seen_glyphs l))) (h e l m)

any-cut : (n : ℕ) (gs : List Glyph) → Cuttable Any n gs
any-cut n gs a b p e q = tt

pub format_makes : (a : Set) (n : ℕ) → MakesAll (format a n) 33
format_makes a n = makes_all (format a n) (Cuttable Any n) 33 (any-cut n) (format-grows Any Any New a (λ k v e. tt) n 0) (format-next a n)

pub insert_makes : {u u' : ℕ} {w : What} → Fresh New w u u' → (a : Set) → MakesAll (insert_with w a) 33
insert_makes {w = w} f a = makes_all (insert_with w a) Anyway 33 (λ gs. tt) (insert-grows Any Any New f tt a (λ k v e. tt)) (insert-next w a)

pub plain_text_makes : {u u' : ℕ} {w : What} → Fresh New w u u' → MakesAll (plain_text w) 1
plain_text_makes {w = w} f = makes_all (plain_text w) Anyway 1 (λ gs. tt) (plain_text-grows Any Any New f) (λ e l m. omega (arith, settle-next empty l m))

pub plain_embed_makes : {u u' : ℕ} {w : What} → Fresh New w u u' → MakesAll (plain_embed w) 1
plain_embed_makes {w = w} f = makes_all (plain_embed w) Anyway 1 (λ gs. tt) (plain_embed-grows Any Any New f) (λ e l m. omega arith)

pub delete_makes : (n : ℕ) → MakesAll (delete_here n) 1
delete_makes n = makes_all (delete_here n) (Cuttable Any n) 1 (any-cut n) (delete-grows Any Any New n 0) (next n)
  where
    next : (n : ℕ) (e : Env) (l : List Item) (m : ℕ) → (delete_here n e l m).next ≤ m + 1
    next zero e l m = omega arith
    next (suc n) e l m = omega (arith, kill-next (suc n) l m)

pub remove_here_makes : (n : ℕ) → MakesAll (remove_here n) 1
remove_here_makes n = makes_all (remove_here n) (Cuttable Any n) 1 (any-cut n) (remove_here-grows Any Any New n 0) next
  where
    next : (e : Env) (l : List Item) (m : ℕ) → (remove_here n e l m).next ≤ m + 1
    next e l m = go (is_none keys e)
      where
        go : (b : Bool) → (cond b (kill_units n l m) (tidy e (kill_units n l m))).next ≤ m + 1
        go true = omega (arith, kill-next n l m)
        go false = omega (arith, kill-next n l m)

pub place_makes : (i : ℕ) (l : List Item) (m : ℕ) → Makes l m (place i l m) 1
place_makes i l m = steps-make (place i l m) (place-grows Any Any New i l m 0 (any-cut i (seen_glyphs l))) (omega (arith, place-next i l m))

-- one move after the other
below_left : (a b : List Item) (m : ℕ) → AllBelow m (a ++ b) → AllBelow m a
below_left [] b m h = tt
below_left (i ∷ a) b m h = (h.0, below_left a b m h.1)

below_right : (a b : List Item) (m : ℕ) → AllBelow m (a ++ b) → AllBelow m b
below_right [] b m h = h
below_right (i ∷ a) b m h = below_right a b m h.1

below_both : (a b : List Item) (m m' : ℕ) → m ≤ m' → AllBelow m a → AllBelow m' b → AllBelow m' (a ++ b)
below_both [] b m m' h x y = y
below_both (i ∷ a) b m m' h x y = (omega (arith, x.0), below_both a b m m' h x.1 y)

occurs-append : (j : ℕ) (a b : List Item) → occurs j (a ++ b) ≡ occurs j a + occurs j b
occurs-append j [] b = omega arith
occurs-append j (i ∷ a) b = omega (arith, occurs-append j a b)

pub then_makes : {l : List Item} {m k k' : ℕ} (e : Env) (p : At) (f : Move) → Makes l m p k → Makes p.right p.next (f (after e p.left) p.right p.next) k' → Makes l m (and_then e p f) (k + k')
then_makes {l} {m} e p f h h' = record {
  most = omega (arith, h.most, h'.most);
  least = omega (arith, h.least, h'.least);
  count = omega (arith, h.count, h'.count, length-append p.left p.right, length-append (p.left ++ q.left) q.right, length-append p.left q.left, length-append q.left q.right);
  under = λ b. subst (AllBelow q.next) (sym (append_assoc p.left q.left q.right))
      (below_both p.left (q.left ++ q.right) p.next q.next h'.least (below_left p.left p.right p.next (h.under b)) (h'.under (below_right p.left p.right p.next (h.under b))));
  once = λ j. omega (arith, h.once j, h'.once j, occurs-append j p.left p.right, occurs-append j (p.left ++ q.left) q.right, occurs-append j p.left q.left, occurs-append j q.left q.right);
}
  where
    q : At
    q = f (after e p.left) p.right p.next

pub index_makes : (i : ℕ) (f : Move) (k : ℕ) → MakesAll f k → (l : List Item) (m : ℕ) → Makes l m (by_index i f l m) (1 + k)
index_makes i f k h l m = then_makes none (place i l m) f (place_makes i l m) (h (after none (place i l m).left) (place i l m).right (place i l m).next)

stay_makes : (l : List Item) (m k : ℕ) → Makes l m (stay l m) k
stay_makes l m k = record { most = omega arith; least = omega arith; count = refl; under = λ b. b; once = λ j. refl }

pub remove_makes : (i n : ℕ) (l : List Item) (m : ℕ) → Makes l m (remove i n l m) 2
remove_makes i zero l m = stay_makes l m 2
remove_makes i (suc n) l m = index_makes i (remove_here (suc n)) 1 (remove_here_makes (suc n)) l m

-- an operation of a delta, and a delta
looser : {l : List Item} {m k k' : ℕ} {p : At} → k ≤ k' → Makes l m p k → Makes l m p k'
looser h x = record { most = omega (arith, x.most); least = x.least; count = x.count; under = x.under; once = x.once }

pub move_makes : (op : Op Given) → MakesAll (move op) 33
move_makes (insert (new_text s zero) a) e l m = stay_makes l m 33
move_makes (insert (new_text s (suc n)) a) e l m = insert_makes (texts {u = s} (suc n) (omega arith) tt) a e l m
move_makes (insert (new_embed x) a) e l m = insert_makes (embeds {u = 0} x tt) a e l m
move_makes (delete n) e l m = looser (omega arith) (delete_makes n e l m)
move_makes (retain n a) e l m = format_makes a n e l m

carry_makes : {l : List Item} {m k : ℕ} (ops : List (Op Given)) (p : At) → Makes l m p k → Makes l m (carry_out ops p) (k + 33 * length ops)
carry_makes {l = l} {m = m} {k = k} [] p h = looser (omega arith) h
carry_makes {l = l} {m = m} {k = k} (op ∷ ops) p h = looser (omega arith) (carry_makes {k = k + 33} ops (and_then none p (move op)) (then_makes none p (move op) h (move_makes op (after none p.left) p.right p.next)))

pub delta_makes : (ops : List (Op Given)) (l : List Item) (m : ℕ) → Makes l m (delta ops l m) (33 * length ops)
delta_makes ops l m = looser (omega arith) (carry_makes ops (stay l m) (stay_makes l m 0))

-- from any place on: so a list that is too long on the way is too long in the end
pub carry_from : (ops : List (Op Given)) (p : At) → Makes (whole p) p.next (carry_out ops p) (33 * length ops)
carry_from ops p = looser (omega arith) (carry_makes {k = 0} ops p (record { most = omega arith; least = omega arith; count = refl; under = λ b. b; once = λ j. refl }))

pub carry-longer : (ops : List (Op Given)) (p : At) → length (whole p) ≤ length (whole (carry_out ops p))
carry-longer ops p = let r = carry_from ops p in omega (arith, r.least, r.count)

-- Every call.
laid-length : (u : ℕ) (ops : List (Op Body)) → length (laid_out u ops) ≡ length ops
laid-length u [] = refl
laid-length u (insert (words t) a ∷ ops) = ap suc (laid-length (u + length t) ops)
laid-length u (insert (object x) a ∷ ops) = ap suc (laid-length u ops)
laid-length u (delete n ∷ ops) = ap suc (laid-length u ops)
laid-length u (retain n a ∷ ops) = ap suc (laid-length u ops)

text_makes : (i : ℕ) (us : List ℕ) (f : What → Move) (k : ℕ) (s : Sheet) → ((u n : ℕ) → MakesAll (f (text u (suc n))) k) → Makes s.items s.next (text_ruling i us f s).place (1 + k)
text_makes i [] f k s h = stay_makes s.items s.next (1 + k)
text_makes i (x ∷ us) f k s h = index_makes i (f (text (length s.units) (length (x ∷ us)))) k (h (length s.units) (length us)) s.items s.next

pub ruling_makes : (c : Call) → Edit c → (s : Sheet) → Makes s.items s.next (ruling c s).place (most_new c)
ruling_makes begin_now d s = elim d [ ]
ruling_makes (insert_text i us) d s = text_makes i us plain_text 1 s (λ u n. plain_text_makes (texts {u = u} (suc n) (omega arith) tt))
ruling_makes (insert_text_with i us a) d s = text_makes i us (λ w. insert_with w a) 33 s (λ u n. insert_makes (texts {u = u} (suc n) (omega arith) tt) a)
ruling_makes (insert_embed i x) d s = index_makes i (plain_embed (embed x)) 1 (plain_embed_makes (embeds {u = 0} x tt)) s.items s.next
ruling_makes (insert_embed_with i x a) d s = index_makes i (insert_with (embed x) a) 33 (insert_makes (embeds {u = 0} x tt) a) s.items s.next
ruling_makes (format_range i n a) d s = index_makes i (format a n) 33 (format_makes a n) s.items s.next
ruling_makes (remove_range i n) d s = remove_makes i n s.items s.next
ruling_makes (apply_delta ops) d s = looser (omega (arith, laid-length (length s.units) ops)) (delta_makes (laid_out (length s.units) ops) s.items s.next)

-- A call, refused or not, adds at most so many items.
pub call-items : (c : Call) → Edit c → (s : Sheet) → Within s → length (call c s).sheet.items ≤ length s.items + most_new c
call-items c d s w = call_cases (λ o. length o.sheet.items ≤ length s.items + most_new c) c s w (λ n h. omega arith) (λ e h. let r = ruling_makes c d s in omega (arith, r.most, r.count))

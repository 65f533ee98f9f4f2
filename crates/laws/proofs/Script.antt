-- Unit by unit the event keeps, drops and gives what the items say, up to trailing keeps; and it has no more operations than there are text and embed items.
use Prim.Native.Nat.{ℕ, suc, ◌+◌, ◌≤◌}
use mathlib.Core.Path.{◌≡◌, refl, sym, ap, ◌∙◌, subst}
use mathlib.Core.Bool.{Bool, true, false, cond}
use mathlib.Core.List.{List, [], ◌∷◌, ◌++◌, append_assoc, append-nil}
use native.Mathlib.Omega.{arith}
use lib.ListN.{length, replicate, length-append, replicate-append-replicate}
use Rattle.sets.specs.Sets.{Set, Env, keys, bare}
use Rattle.rules.specs.Sheet.{What, text, embed, mark, Item, is_mark}
use Rattle.rules.specs.Reading.{Seen, Glyph, thing, units_of, Op, insert, delete, retain}
use Rattle.rules.specs.Event.{Run, idle, inserting, deleting, retaining, Asm, add_op, Step, goes, starts, grow_insert, grow_delete, grow_retain, Change, breaks, mark_step, change_by, step, told, passed, gather, is_plain, ahead, finish, fresh, event, Act, keep, drop, give, giving, script, fate, fates, carriers}
use Rattle.rules.specs.Scripts.{UpToKeeps}

abbrev Ops : Type 0
Ops = List (Op (List Glyph))

-- what a run has done so far
abbrev done : Run → List Act
done idle = []
done (inserting gs) = giving gs
done (deleting n) = replicate n drop
done (retaining n) = replicate n keep

giving-append : (a b : List Glyph) → giving (a ++ b) ≡ giving a ++ giving b
giving-append [] b = refl
giving-append (g ∷ a) b = ap (λ (x : List Act). give g ∷ x) (giving-append a b)

script-append : (a b : Ops) → script (a ++ b) ≡ script a ++ script b
script-append [] b = refl
script-append (insert gs s ∷ a) b = rw (script-append a b) (sym (append_assoc (giving gs) (script a) (script b)))
script-append (delete n ∷ a) b = rw (script-append a b) (sym (append_assoc (replicate n drop) (script a) (script b)))
script-append (retain n s ∷ a) b = rw (script-append a b) (sym (append_assoc (replicate n keep) (script a) (script b)))

script_op : (r : Run) (a : Set) (c : Env) → script (add_op r a c) ≡ done r
script_op idle a c = refl
script_op (inserting gs) a c = append-nil _
script_op (deleting n) a c = append-nil _
script_op (retaining n) a c = append-nil _

-- a step tells what the run has done, and goes on with the item's share
pub record Says (s : Step) (r : Run) (f : List Act) : Type 0 where
  pub says : cond s.ends (done r) [] ++ script s.tells ++ done s.then ≡ done r ++ f

fresh-run : (r r' : Run) (f : List Act) → done r' ≡ f → Says (starts r') r f
fresh-run r r' f e = record { says = rw (append-nil (done r), e) refl }

said-insert : (gs : List Glyph) (r : Run) → Says (grow_insert gs r) r (giving gs)
said-insert gs idle = fresh-run idle (inserting gs) (giving gs) refl
said-insert gs (inserting hs) = record { says = giving-append hs gs }
said-insert gs (deleting n) = fresh-run (deleting n) (inserting gs) (giving gs) refl
said-insert gs (retaining n) = fresh-run (retaining n) (inserting gs) (giving gs) refl

said-delete : (w : ℕ) (r : Run) → Says (grow_delete w r) r (replicate w drop)
said-delete w idle = fresh-run idle (deleting w) (replicate w drop) refl
said-delete w (inserting hs) = fresh-run (inserting hs) (deleting w) (replicate w drop) refl
said-delete w (deleting n) = record { says = sym (replicate-append-replicate n w drop) }
said-delete w (retaining n) = fresh-run (retaining n) (deleting w) (replicate w drop) refl

said-retain : (w : ℕ) (r : Run) → Says (grow_retain w r) r (replicate w keep)
said-retain w idle = fresh-run idle (retaining w) (replicate w keep) refl
said-retain w (inserting hs) = fresh-run (inserting hs) (retaining w) (replicate w keep) refl
said-retain w (deleting n) = fresh-run (deleting n) (retaining w) (replicate w keep) refl
said-retain w (retaining n) = record { says = sym (replicate-append-replicate n w keep) }

said-nothing : (r : Run) → Says (goes r) r []
said-nothing r = record { says = sym (append-nil (done r)) }

said-mark : (ch : Change) (now : Bool) (r : Run) → Says (mark_step ch now r) r []
said-mark ch now r = go (breaks ch now r)
  where
    go : (b : Bool) → Says (cond b (starts idle) (goes r)) r []
    go true = fresh-run r idle [] refl
    go false = said-nothing r

said : (was now : Bool) (w : What) (t : Asm) → Says (step was now w t) t.run (fate was now w)
said false false (text s n) t = said-nothing t.run
said false true (text s n) t = said-insert (units_of s n) t.run
said true false (text s n) t = said-delete n t.run
said true true (text s n) t = said-retain n t.run
said false false (embed e) t = said-nothing t.run
said false true (embed e) t = record { says = append-nil (done t.run ++ (give (thing e) ∷ [])) }
said true false (embed e) t = said-delete 1 t.run
said true true (embed e) t = said-retain 1 t.run
said false false (mark k v) t = said-mark (change_by false false k v t) false t.run
said false true (mark k v) t = said-mark (change_by false true k v t) true t.run
said true false (mark k v) t = said-mark (change_by true false k v t) false t.run
said true true (mark k v) t = said-mark (change_by true true k v t) true t.run

script-told : (s : Step) (t : Asm) → script (told s t) ≡ cond s.ends (done t.run) [] ++ script s.tells
script-told s t = script-append (cond s.ends (add_op t.run t.attrs t.cur) []) s.tells ∙ ap (λ (x : List Act). x ++ script s.tells) (go s.ends)
  where
    go : (b : Bool) → script (cond b (add_op t.run t.attrs t.cur) []) ≡ cond b (done t.run) []
    go true = script_op t.run t.attrs t.cur
    go false = refl

pub gathered : (was now : Seen) (l : List Item) (t : Asm) → script (gather was now t l) ≡ done t.run ++ fates was now l
gathered was now [] t = script_op t.run t.attrs t.cur ∙ sym (append-nil (done t.run))
gathered was now (i ∷ l) t = go (step (was i.flags) (now i.flags) i.what t) (gather was now (passed was now i t) l) (fate (was i.flags) (now i.flags) i.what) (said (was i.flags) (now i.flags) i.what t) (gathered was now l (passed was now i t))
  where
    go : (s : Step) (ops : Ops) (f : List Act) → Says s t.run f → script ops ≡ done s.then ++ fates was now l → script (told s t ++ ops) ≡ done t.run ++ (f ++ fates was now l)
    go s ops f h e =
        script-append (told s t) ops ∙ ap (λ (x : List Act). x ++ script ops) (script-told s t)
        ∙ ap (λ (x : List Act). cond s.ends (done t.run) [] ++ script s.tells ++ x) e
        ∙ sym (append_assoc (cond s.ends (done t.run) [] ++ script s.tells) (done s.then) (fates was now l))
        ∙ ap (λ (x : List Act). x ++ fates was now l) h.says
        ∙ append_assoc (done t.run) f (fates was now l)

-- up to trailing keeps
ahead-keeps : (op : Op (List Glyph)) (ops : Ops) → UpToKeeps (script (ahead op ops)) (script (op ∷ ops))
ahead-keeps op (o ∷ ops) = record { keeps = 0; same = append-nil (script (op ∷ o ∷ ops)) }
ahead-keeps (insert gs a) [] = record { keeps = 0; same = append-nil _ }
ahead-keeps (delete n) [] = record { keeps = 0; same = append-nil _ }
ahead-keeps (retain n a) [] = go (bare keys a)
  where
    go : (b : Bool) → UpToKeeps (script (cond b [] (retain n a ∷ []))) (replicate n keep ++ [])
    go true = record { keeps = n; same = sym (append-nil _) }
    go false = record { keeps = 0; same = append-nil _ }

behind : (op : Op (List Glyph)) (a b : Ops) → UpToKeeps (script a) (script b) → UpToKeeps (script (op ∷ a)) (script (op ∷ b))
behind (insert gs s) a b h = record { keeps = h.keeps; same = append_assoc (giving gs) _ _ ∙ ap (λ (x : List Act). giving gs ++ x) h.same }
behind (delete n) a b h = record { keeps = h.keeps; same = append_assoc (replicate n drop) _ _ ∙ ap (λ (x : List Act). replicate n drop ++ x) h.same }
behind (retain n s) a b h = record { keeps = h.keeps; same = append_assoc (replicate n keep) _ _ ∙ ap (λ (x : List Act). replicate n keep ++ x) h.same }

both : (a b c : List Act) → UpToKeeps a b → UpToKeeps b c → UpToKeeps a c
both a b c h k = record {
  keeps = h.keeps + k.keeps;
  same = ap (λ (x : List Act). a ++ x) (sym (replicate-append-replicate h.keeps k.keeps keep)) ∙ sym (append_assoc a _ _) ∙ ap (λ (x : List Act). x ++ replicate k.keeps keep) h.same ∙ k.same;
}

finished : (ops : Ops) → UpToKeeps (script (finish ops)) (script ops)
finished [] = record { keeps = 0; same = refl }
finished (op ∷ ops) = both (script (ahead op (finish ops))) (script (op ∷ finish ops)) (script (op ∷ ops)) (ahead-keeps op (finish ops)) (behind op (finish ops) ops (finished ops))

-- The script theorem.
pub event-says : (was now : Seen) (l : List Item) → UpToKeeps (script (event was now l)) (fates was now l)
event-says was now l = subst (λ (x : List Act). UpToKeeps (script (event was now l)) x) (gathered was now l fresh) (finished (gather was now fresh l))

-- How many operations.
abbrev begun : Run → ℕ
begun idle = 0
begun (inserting gs) = 1
begun (deleting n) = 1
begun (retaining n) = 1

one-op : (r : Run) (a : Set) (c : Env) → length (add_op r a c) ≡ begun r
one-op idle a c = refl
one-op (inserting gs) a c = refl
one-op (deleting n) a c = refl
one-op (retaining n) a c = refl

abbrev Costs : Step → Run → ℕ → Type 0
Costs s r n = cond s.ends (begun r) 0 + length s.tells + begun s.then ≤ begun r + n

cost-insert : (gs : List Glyph) (r : Run) → Costs (grow_insert gs r) r 1
cost-insert gs idle = omega arith
cost-insert gs (inserting hs) = omega arith
cost-insert gs (deleting n) = omega arith
cost-insert gs (retaining n) = omega arith

cost-delete : (w : ℕ) (r : Run) → Costs (grow_delete w r) r 1
cost-delete w idle = omega arith
cost-delete w (inserting hs) = omega arith
cost-delete w (deleting n) = omega arith
cost-delete w (retaining n) = omega arith

cost-retain : (w : ℕ) (r : Run) → Costs (grow_retain w r) r 1
cost-retain w idle = omega arith
cost-retain w (inserting hs) = omega arith
cost-retain w (deleting n) = omega arith
cost-retain w (retaining n) = omega arith

cost-mark : (ch : Change) (now : Bool) (r : Run) → Costs (mark_step ch now r) r 0
cost-mark ch now r = go (breaks ch now r)
  where
    go : (b : Bool) → Costs (cond b (starts idle) (goes r)) r 0
    go true = omega arith
    go false = omega arith

cost : (was now : Bool) (w : What) (t : Asm) → Costs (step was now w t) t.run (cond (is_mark w) 0 1)
cost false false (text s n) t = omega arith
cost false true (text s n) t = cost-insert (units_of s n) t.run
cost true false (text s n) t = cost-delete n t.run
cost true true (text s n) t = cost-retain n t.run
cost false false (embed e) t = omega arith
cost false true (embed e) t = omega arith
cost true false (embed e) t = cost-delete 1 t.run
cost true true (embed e) t = cost-retain 1 t.run
cost false false (mark k v) t = cost-mark (change_by false false k v t) false t.run
cost false true (mark k v) t = cost-mark (change_by false true k v t) true t.run
cost true false (mark k v) t = cost-mark (change_by true false k v t) false t.run
cost true true (mark k v) t = cost-mark (change_by true true k v t) true t.run

length-told : (s : Step) (t : Asm) → length (told s t) ≡ cond s.ends (begun t.run) 0 + length s.tells
length-told s t = length-append (cond s.ends (add_op t.run t.attrs t.cur) []) s.tells ∙ ap (λ (x : ℕ). x + length s.tells) (go s.ends)
  where
    go : (b : Bool) → length (cond b (add_op t.run t.attrs t.cur) []) ≡ cond b (begun t.run) 0
    go true = one-op t.run t.attrs t.cur
    go false = refl

counted : (was now : Seen) (l : List Item) (t : Asm) → length (gather was now t l) ≤ begun t.run + carriers l
counted was now [] t = omega (arith, one-op t.run t.attrs t.cur)
counted was now (i ∷ l) t = go (step (was i.flags) (now i.flags) i.what t) (gather was now (passed was now i t) l) (cond (is_mark i.what) 0 1) (cost (was i.flags) (now i.flags) i.what t) (counted was now l (passed was now i t))
  where
    go : (s : Step) (ops : Ops) (n : ℕ) → Costs s t.run n → length ops ≤ begun s.then + carriers l → length (told s t ++ ops) ≤ begun t.run + (n + carriers l)
    go s ops n h e = omega (arith, length-append (told s t) ops, length-told s t)

ahead-length : (op : Op (List Glyph)) (ops : Ops) → length (ahead op ops) ≤ suc (length ops)
ahead-length op (o ∷ ops) = omega arith
ahead-length op [] = go (is_plain op)
  where
    go : (b : Bool) → length (cond b [] (op ∷ [])) ≤ 1
    go true = omega arith
    go false = omega arith

finish-length : (ops : Ops) → length (finish ops) ≤ length ops
finish-length [] = omega arith
finish-length (op ∷ ops) = omega (arith, ahead-length op (finish ops), finish-length ops)

-- Each operation has a text or embed item of its own.
pub event-length : (was now : Seen) (l : List Item) → length (event was now l) ≤ carriers l
event-length was now l = omega (arith, finish-length (gather was now fresh l), counted was now l fresh)

-- The sets of an event have keys up to 15 and values up to 255, since the marks of a sound list do; and what one operation inserts is
-- units alone, or one embed.
use Prim.Native.Nat.{ℕ, zero, suc, ◌<◌}
use native.Mathlib.Omega.{arith}
use Rattle.std.proofs.Common.{rules}
use mathlib.Core.Path.{◌≡◌}
use mathlib.Core.Bool.{Bool, cond}
use mathlib.Core.List.{List, [], ◌∷◌, ◌++◌}
use Rattle.sets.specs.Sets.{Slot, absent, is, Set, Env, at, non_null, as_set}
use Rattle.rules.specs.Sheet.{What, Item}
use Rattle.rules.specs.Sound.{Fits, AllFit}
use Rattle.rules.specs.Reading.{Seen, set_key, Glyph, unit, thing, units_of, Op, insert, delete, retain}
use Rattle.rules.specs.Event.{Run, idle, inserting, deleting, retaining, Asm, fresh, add_op, Step, Change, stays, becomes, change, step, pending, told, passed, gather, finish, event}
use Rattle.events.specs.Told.{Ops}

-- ---- what is fair
abbrev pub Fair : ℕ → Slot → Type 0
Fair k absent = Unit {0}
Fair k (is v) = (k < 16) × (v < 256)

abbrev pub FairSet : Set → Type 0
FairSet a = (k : ℕ) → Fair k (a k)

-- units alone
abbrev pub AllUnits : List Glyph → Type 0
AllUnits [] = Unit {0}
AllUnits (unit p ∷ gs) = AllUnits gs
AllUnits (thing e ∷ gs) = ⊥

-- .. or one embed
abbrev pub Lone : List Glyph → Type 0
Lone [] = Unit {0}
Lone (unit p ∷ gs) = AllUnits gs
Lone (thing e ∷ gs) = gs ≡ []

abbrev pub FairOp : Op (List Glyph) → Type 0
FairOp (insert gs a) = Lone gs × FairSet a
FairOp (delete n) = Unit {0}
FairOp (retain n a) = FairSet a

abbrev pub FairOps : Ops → Type 0
FairOps [] = Unit {0}
FairOps (op ∷ ops) = FairOp op × FairOps ops

fair-append : (a b : Ops) → FairOps a → FairOps b → FairOps (a ++ b)
fair-append [] b f g = g
fair-append (op ∷ a) b f g = (f.0, fair-append a b f.1 g)

all-text : (s n : ℕ) → AllUnits (units_of s n)
all-text s zero = tt
all-text s (suc n) = all-text (suc s) n

all_append : (a b : List Glyph) → AllUnits a → AllUnits b → AllUnits (a ++ b)
all_append [] b f g = g
all_append (unit p ∷ a) b f g = all_append a b f g
all_append (thing e ∷ a) b f g = absurd f

-- ---- the assembler
abbrev FairRun : Run → Type 0
FairRun idle = Unit {0}
FairRun (inserting gs) = AllUnits gs
FairRun (deleting n) = Unit {0}
FairRun (retaining n) = Unit {0}

record FairAsm (t : Asm) : Type 0 where
  run : FairRun t.run
  attrs : FairSet t.attrs
  cur : FairSet (as_set t.cur)

record FairStep (s : Step) : Type 0 where
  tells : FairOps s.tells
  then : FairRun s.then

add_fair : (r : Run) (a : Set) (c : Env) → FairRun r → FairSet a → FairSet (as_set c) → FairOps (add_op r a c)
add_fair r a c f g h = grind rules

told_fair : (s : Step) (t : Asm) → FairAsm t → FairStep s → FairOps (told s t)
told_fair s t f g = grind (rules, fair-append, add_fair)

-- ---- one item
step_fair : (was now : Bool) (w : What) (t : Asm) → FairAsm t → FairStep (step was now w t)
step_fair was now w t f = grind (rules, all-text, all_append)

-- ---- sets behind an item
abbrev FairChange : ℕ → Change → Type 0
FairChange k stays = Unit {0}
FairChange k (becomes s) = Fair k s

-- a value in force is a byte
force-byte : (k c : ℕ) → Fair k (non_null c) → c < 256
force-byte k c f = grind (rules, arith)

change_fair : (was now : Bool) (o c : ℕ) (p : Slot) (v k : ℕ) → k < 16 → c < 256 → v < 256 → FairChange k (change was now o c p v)
change_fair was now o c p v k hk hc hv = grind rules

-- a slot put at a key
at_fair : (k : ℕ) (x : Slot) (a : Set) → Fair k x → FairSet a → FairSet (at k x a)
at_fair k x a f g j = grind (rules, arith)

pending_fair : (used : ℕ) (was now : Bool) (w : What) (t : Asm) → Fits used w → FairAsm t → FairSet (pending was now w t)
pending_fair used was now w t q f = grind (rules, at_fair, change_fair, force-byte)

force_fair : (used : ℕ) (now : Bool) (w : What) (e : Env) → Fits used w → FairSet (as_set e) → FairSet (as_set (λ k. cond now (set_key k w (e k)) (e k)))
force_fair used now w e q f j = grind (rules, arith)

-- ---- the event
gather_fair : (used : ℕ) (was now : Seen) (t : Asm) (l : List Item) → AllFit used l → FairAsm t → FairOps (gather was now t l)
gather_fair used was now t [] a f = add_fair t.run t.attrs t.cur f.run f.attrs f.cur
gather_fair used was now t (i ∷ l) a f =
    let s = step_fair (was i.flags) (now i.flags) i.what t f in
    fair-append (told (step (was i.flags) (now i.flags) i.what t) t) (gather was now (passed was now i t) l)
    (told_fair (step (was i.flags) (now i.flags) i.what t) t f s)
    (gather_fair used was now (passed was now i t) l a.2 (record {
      run = s.then;
      attrs = pending_fair used (was i.flags) (now i.flags) i.what t a.1 f;
      cur = force_fair used (now i.flags) i.what t.cur a.1 f.cur;
    }))

finish_fair : (ops : Ops) → FairOps ops → FairOps (finish ops)
finish_fair [] f = tt
finish_fair (op ∷ ops) f = grind (rules, finish_fair ops)

pub event_fair : (used : ℕ) (was now : Seen) (l : List Item) → AllFit used l → FairOps (event was now l)
event_fair used was now l a = finish_fair (gather was now fresh l) (gather_fair used was now fresh l a (record { run = tt; attrs = λ k. tt; cur = λ k. tt }))

-- The run by value is the rules' run, its glyphs counted: how it turns, and what is told of it.
use Prim.Native.Nat.{ℕ, zero, suc, ◌+◌}
use native.Mathlib.Omega.{arith}
use native.Mathlib.Nat.{add-zero}
use mathlib.Core.Path.{◌≡◌, refl, sym, ap, ◌∙◌}
use mathlib.Core.Bool.{Bool, true, false, cond}
use mathlib.Core.List.{List, [], ◌∷◌, ◌++◌, append-nil}
use Rattle.std.specs.Prelude.{Option, None}
use Rattle.std.specs.Option.{option_to_list}
use Rattle.sets.specs.Sets.{absent, is, Set, Env, as_set}
use Rattle.attrs.specs.Packed.{packed}
use Rattle.rules.specs.Reading.{Glyph, unit, thing, units_of, insert, delete, retain}
use Rattle.rules.specs.Event.{Run, idle, inserting, deleting, retaining, Asm, add_op, Step, goes, starts, grow_insert, grow_delete, grow_retain, Change, stays, becomes, breaks, mark_step, told, in_units, told_units}
use Rattle.laws.proofs.Fits.{in-append, in-units}
use Rattle.ops.specs.declared.delta.Inserted.{Inserted}
use Rattle.ops.specs.declared.delta.Inserted.TheVariants.{Text, Embed}
use Rattle.ops.specs.declared.delta.Op.TheVariants.{Insert}
use Rattle.assembling.specs.declared.runs.Kind.TheVariants.{Inserting, Deleting, Retaining}
use Rattle.assembling.specs.declared.runs.Run.{Run as Kept}
use Rattle.assembling.specs.declared.assembler.Assembler.{Assembler}
use Rattle.assembling.specs.declared.runs.Turn.{Turn}
use Rattle.assembling.specs.declared.runs.Turn.TheVariants.{Goes, Starts}
use Rattle.assembling.specs.declared.assembler.Passed.{Passed}
use Rattle.assembling.specs.Steps.{of_kind, inserted_by, run_op, grow_insert_by, grow_delete_by, grow_retain_by, turned_by, pending_of, breaks_by, mark_turn}
use Rattle.events.specs.Told.{Ops, part_of, delta_ops}

-- ---- glyphs are counted

pub told-append : (a b : Ops) → told_units (a ++ b) ≡ told_units a + told_units b
told-append [] b = omega arith
told-append (insert gs s ∷ a) b = omega (arith, told-append a b)
told-append (delete n ∷ a) b = told-append a b
told-append (retain n s ∷ a) b = told-append a b

-- ---- the assembler that stands for the rules'

abbrev pub run_of : Run → Option Kept
run_of idle = None
run_of (inserting gs) = of_kind Inserting (in_units gs)
run_of (deleting n) = of_kind Deleting n
run_of (retaining n) = of_kind Retaining n

abbrev pub code_of : ℕ → Asm → Assembler
code_of p t = record { run = run_of t.run; units = p; attrs = packed t.attrs; current = packed (as_set t.cur); old = packed (as_set t.old) }

-- a run of insertion has gathered units alone
abbrev pub Plain : Run → Type 0
Plain idle = Unit {0}
Plain (inserting gs) = (p : ℕ) → part_of p gs ≡ Text p (in_units gs)
Plain (deleting n) = Unit {0}
Plain (retaining n) = Unit {0}

plain-units : (s n p : ℕ) → part_of p (units_of s n) ≡ Text p (in_units (units_of s n))
plain-units s zero p = refl
plain-units s (suc n) p = refl

plain-append : (gs : List Glyph) (s n : ℕ) → ((p : ℕ) → part_of p gs ≡ Text p (in_units gs)) → (p : ℕ) → part_of p (gs ++ units_of s n) ≡ Text p (in_units (gs ++ units_of s n))
plain-append [] s n h p = plain-units s n p
plain-append (unit q ∷ gs) s n h p = refl
plain-append (thing e ∷ gs) s n h p = let z : Embed e ≡ Text p (in_units gs) = h p in cc

-- ---- turns

abbrev pub turn_of : Step → Turn
turn_of s = cond s.ends (Starts (run_of s.then)) (Goes (run_of s.then))

-- the turn is the rules' step, which tells nothing besides and leaves a plain run
pub record Turns (T : Turn) (s : Step) (r : Run) : Type 0 where
  pub turn : T ≡ turn_of s
  pub quiet : s.tells ≡ []
  pub plain : Plain r → Plain s.then

pub goes_on_lem : (r : Run) → Turns (Goes (run_of r)) (goes r) r
goes_on_lem r = record { turn = refl; quiet = refl; plain = λ h. h }

starts-text : (s n : ℕ) (r : Run) → Turns (Starts (of_kind Inserting n)) (starts (inserting (units_of s n))) r
starts-text s n r = record { turn = ap (λ (x : ℕ). Starts (of_kind Inserting x)) (sym (in-units s n)); quiet = refl; plain = λ h. plain-units s n }

pub grows-insert : (s n : ℕ) (r : Run) → Turns (grow_insert_by n (run_of r)) (grow_insert (units_of s n) r) r
grows-insert s n idle = starts-text s n idle
grows-insert s n (inserting hs) = record {
  turn = ap (λ (x : ℕ). Goes (of_kind Inserting x)) (sym (in-append hs (units_of s n) ∙ ap (λ (x : ℕ). in_units hs + x) (in-units s n)));
  quiet = refl;
  plain = plain-append hs s n;
}
grows-insert s n (deleting k) = starts-text s n (deleting k)
grows-insert s n (retaining k) = starts-text s n (retaining k)

pub grows-delete : (w : ℕ) (r : Run) → Turns (grow_delete_by w (run_of r)) (grow_delete w r) r
grows-delete w idle = record { turn = refl; quiet = refl; plain = λ h. tt }
grows-delete w (inserting hs) = record { turn = refl; quiet = refl; plain = λ h. tt }
grows-delete w (deleting k) = record { turn = refl; quiet = refl; plain = λ h. tt }
grows-delete w (retaining k) = record { turn = refl; quiet = refl; plain = λ h. tt }

pub grows-retain : (w : ℕ) (r : Run) → Turns (grow_retain_by w (run_of r)) (grow_retain w r) r
grows-retain w idle = record { turn = refl; quiet = refl; plain = λ h. tt }
grows-retain w (inserting hs) = record { turn = refl; quiet = refl; plain = λ h. tt }
grows-retain w (deleting k) = record { turn = refl; quiet = refl; plain = λ h. tt }
grows-retain w (retaining k) = record { turn = refl; quiet = refl; plain = λ h. tt }

breaks-is : (ch : Change) (now : Bool) (r : Run) → breaks_by (pending_of ch) now (run_of r) ≡ breaks ch now r
breaks-is ch now idle = refl
breaks-is ch now (inserting gs) = refl
breaks-is ch now (deleting n) = refl
breaks-is stays now (retaining n) = refl
breaks-is (becomes absent) now (retaining n) = refl
breaks-is (becomes (is v)) now (retaining n) = refl

pub marks_turn : (ch : Change) (now : Bool) (r : Run) → Turns (mark_turn (pending_of ch) now (run_of r)) (mark_step ch now r) r
marks_turn ch now r = rw (breaks-is ch now r) (go (breaks ch now r))
  where
    go : (b : Bool) → Turns (cond b (Starts None) (Goes (run_of r))) (cond b (starts idle) (goes r)) r
    go true = record { turn = refl; quiet = refl; plain = λ h. tt }
    go false = goes_on_lem r

-- ---- the run that ends is told

pub op-told : (p : ℕ) (t : Asm) → Plain t.run → option_to_list (run_op (run_of t.run) (code_of p t)) ≡ delta_ops p (add_op t.run t.attrs t.cur)
unfolding delta_ops
op-told p t h = go t.run h
  where
    go : (r : Run) → Plain r → option_to_list (run_op (run_of r) (code_of p t)) ≡ delta_ops p (add_op r t.attrs t.cur)
    go idle h = refl
    go (inserting gs) h = ap (λ (x : Inserted). record { op = Insert x; attrs = packed (as_set t.cur) } ∷ []) (sym (h p))
    go (deleting n) h = refl
    go (retaining n) h = refl

pub units-told : (r : Run) (a : Set) (c : Env) → inserted_by (run_of r) ≡ told_units (add_op r a c)
units-told idle a c = refl
units-told (inserting gs) a c = omega arith
units-told (deleting n) a c = refl
units-told (retaining n) a c = refl

-- What a step has to give: the operations told, the assembler after it, and that its run is plain.
pub record Steps (P : Passed) (p : ℕ) (ops : Ops) (t : Asm) : Type 0 where
  pub tells : option_to_list P.first ++ option_to_list P.second ≡ delta_ops p ops
  pub asm : P.asm ≡ code_of (p + told_units ops) t
  pub plain : Plain t.run

-- the same assembler but for its run
abbrev pub on_run : Asm → Run → Asm
on_run t r = record { run = r; attrs = t.attrs; cur = t.cur; old = t.old }

turned_steps : (p : ℕ) (t : Asm) (b : Bool) (r : Run) → Plain t.run → Plain r
    → Steps (turned_by (code_of p t) (cond b (Starts (run_of r)) (Goes (run_of r)))) p (cond b (add_op t.run t.attrs t.cur) []) (on_run t r)
unfolding delta_ops
turned_steps p t true r h g = record {
  tells = append-nil (option_to_list (run_op (run_of t.run) (code_of p t))) ∙ op-told p t h;
  asm = ap (λ (x : ℕ). code_of (p + x) (on_run t r)) (units-told t.run t.attrs t.cur);
  plain = g;
}
turned_steps p t false r h g = record { tells = refl; asm = ap (λ (x : ℕ). code_of x (on_run t r)) (sym (add-zero p)); plain = g }

pub turns_steps : (p : ℕ) (t : Asm) (T : Turn) (s : Step) → Plain t.run → Turns T s t.run → Steps (turned_by (code_of p t) T) p (told s t) (on_run t s.then)
turns_steps p t T s h q =
    rw (q.turn, q.quiet, append-nil (cond s.ends (add_op t.run t.attrs t.cur) [])) (turned_steps p t s.ends s.then h (q.plain h))

-- The assembler by value does what the rules' does: an item's operations, and the assembler after it.
use Prim.Native.Nat.{ℕ, ◌+◌, ◌≤◌, ◌<◌}
use native.Mathlib.Omega.{arith}
use mathlib.Core.Path.{◌≡◌, refl, sym, ap, ◌∙◌}
use mathlib.Core.Bool.{Bool, true, false, cond, not, ◌&&◌}
use mathlib.Core.List.{List, [], ◌∷◌, ◌++◌}
use lib.Dec.{eqb}
use borrow.Author.Tests.{lt-ltb}
use Rattle.std.specs.Prelude.{Option, None, Some}
use Rattle.attrs.specs.declared.Attrs.{Attrs}
use Rattle.sets.specs.Sets.{Slot, absent, is, Set, Env, at, non_null, as_set}
use Rattle.attrs.specs.Packed.{says, packed, onto, with_at, taken}
use Rattle.attrs.specs.Packed.{Took}
use Rattle.attrs.proofs.Says.{packed_ext}
use Rattle.attrs.proofs.Force.{says_in, env_in, put-packed}
use Rattle.rules.specs.Sheet.{What, text, embed, mark, width}
use Rattle.rules.specs.Reading.{thing, set_key, insert}
use Rattle.rules.specs.Event.{idle, Asm, add_op, Change, stays, becomes, change, mark_step, change_by, step, changed, pending, told, told_units}
use Rattle.ops.specs.declared.delta.Inserted.TheVariants.{Embed}
use Rattle.ops.specs.declared.delta.Op.TheVariants.{Insert}
use Rattle.ops.specs.declared.delta.DeltaOp.{DeltaOp}
use Rattle.assembling.specs.declared.runs.Kind.{Kind}
use Rattle.assembling.specs.declared.runs.Run.{Run as Kept}
use Rattle.assembling.specs.declared.assembler.Assembler.{Assembler}
use Rattle.assembling.specs.declared.runs.Turn.{Turn}
use Rattle.assembling.specs.declared.runs.Turn.TheVariants.{Goes, Starts}
use Rattle.assembling.specs.Steps.{of_kind, counted, inserted_by, load, same_kind, grow_by, grown_by, turned_by, text_by, tells_too, pending_of, breaks_by, changed_by, past_by, mark_turn, pending_by, pass_by, found}
use Rattle.assembling.proofs.Pendings.{inserted-le}
use Rattle.events.specs.Told.{Ops, delta_ops}
use Rattle.events.proofs.Tellings.{ops_append}
use Rattle.events.proofs.Turns.{told-append, run_of, code_of, Plain, goes_on_lem, grows-insert, grows-delete, grows-retain, marks_turn, op-told, units-told, Steps, on_run, turns_steps}

-- ---- the assembler past an item

abbrev pub passed_by : Bool → Bool → What → Asm → Asm
passed_by was now w t =
    record {
      run = (step was now w t).then;
      attrs = pending was now w t;
      cur = λ k. cond now (set_key k w (t.cur k)) (t.cur k);
      old = λ k. cond was (set_key k w (t.old k)) (t.old k);
    }

-- The promise of a step.
abbrev Does : Bool → Bool → What → ℕ → Asm → Type 0
Does was now w p t = Steps (pass_by was now w (code_of p t)) p (told (step was now w t) t) (passed_by was now w t)

text-does : (was now : Bool) (s n p : ℕ) (t : Asm) → Plain t.run → Does was now (text s n) p t
text-does false false s n p t h = turns_steps p t _ _ h (goes_on_lem t.run)
text-does false true s n p t h = turns_steps p t _ _ h (grows-insert s n t.run)
text-does true false s n p t h = turns_steps p t _ _ h (grows-delete n t.run)
text-does true true s n p t h = turns_steps p t _ _ h (grows-retain n t.run)

embed-does : (was now : Bool) (e p : ℕ) (t : Asm) → Plain t.run → Does was now (embed e) p t
unfolding delta_ops
embed-does false false e p t h = turns_steps p t _ _ h (goes_on_lem t.run)
embed-does true false e p t h = turns_steps p t _ _ h (grows-delete 1 t.run)
embed-does true true e p t h = turns_steps p t _ _ h (grows-retain 1 t.run)
embed-does false true e p t h =
    let ops = add_op t.run t.attrs t.cur in
    let one : Ops = insert (thing e ∷ []) (as_set t.cur) ∷ [] in
    let u : inserted_by (run_of t.run) ≡ told_units (ops ++ one) = omega (arith, units-told t.run t.attrs t.cur, told-append ops one) in
    record {
      tells = ap (λ (x : List DeltaOp). x ++ delta_ops (p + told_units ops) one) (op-told p t h) ∙ sym (ops_append p ops one);
      asm = ap (λ (x : ℕ). code_of (p + x) (on_run t idle)) u;
      plain = tt;
    }

-- ---- marks

abbrev Within : Change → Type 0
Within stays = Unit {0}
Within (becomes absent) = Unit {0}
Within (becomes (is w)) = w < 256

change-within : (was now : Bool) (o c : ℕ) (p : Slot) (v : ℕ) → c < 256 → v < 256 → Within (change was now o c p v)
change-within false false o c p v hc hv = tt
change-within false true o c p v hc hv = go (eqb c v && not (eqb v 0)) (eqb o v)
  where
    go : (a b : Bool) → Within (cond a stays (becomes (cond b absent (is v))))
    go true b = tt
    go false true = tt
    go false false = hv
change-within true false o c p v hc hv = go (eqb c v)
  where
    go : (a : Bool) → Within (cond a stays (becomes (is c)))
    go true = tt
    go false = hc
change-within true true o c absent v hc hv = tt
change-within true true o c (is w) v hc hv = go (eqb w v) (eqb v 0)
  where
    go : (a b : Bool) → Within (cond a stays (becomes (cond b absent (is v))))
    go true b = tt
    go false true = tt
    go false false = hv

takes_it : (a : Attrs) (k v : ℕ) → k < 16 → v < 256 → with_at a k v ≡ taken (onto a (at k (is v) (says a)))
takes_it a k v l h = rw (lt-ltb k 16 l, lt-ltb v 256 h)

changed-is : (s : Set) (k : ℕ) (ch : Change) → k < 16 → Within ch → changed_by (packed s) (pending_of ch) k ≡ packed (changed ch k s)
changed-is s k stays l h = refl
changed-is s k (becomes absent) l h = put-packed s k absent
changed-is s k (becomes (is w)) l h = ap (λ (x : Took). x.attrs) (takes_it (packed s) k w l h) ∙ put-packed s k (is w)

past_is : (e : Env) (seen : Bool) (k v : ℕ) → k < 16 → v < 256
    → past_by (packed (as_set e)) seen k v ≡ packed (as_set (λ j. cond seen (set_key j (mark k v) (e j)) (e j)))
past_is e false k v l h = refl
past_is e true k v l h =
    rw (lt-ltb k 16 l, lt-ltb v 256 h)
    (put-packed (as_set e) k (non_null v) ∙ packed_ext (at k (non_null v) (as_set e)) (as_set (λ j. cond (eqb j k) v (e j))) (λ j m. go (e j) (eqb j k)))
  where
    go : (x : ℕ) (b : Bool) → cond b (non_null v) (non_null x) ≡ non_null (cond b v x)
    go x true = refl
    go x false = refl

pending-is : (was now : Bool) (k v p : ℕ) (t : Asm) → k < 16 → pending_by was now k v (code_of p t) ≡ pending_of (change_by was now k v t)
pending-is was now k v p t l = rw (env_in t.old k l, env_in t.cur k l, says_in t.attrs k l)

mark-does : (was now : Bool) (k v p : ℕ) (t : Asm) → Plain t.run → k < 16 → v < 256 → t.cur k < 256 → Does was now (mark k v) p t
mark-does was now k v p t h l m c =
    let ch = change_by was now k v t in
    let q = passed_by was now (mark k v) t in
    let S = turns_steps p t (mark_turn (pending_of ch) now (run_of t.run)) (mark_step ch now t.run) h (marks_turn ch now t.run) in
    rw (
      pending-is was now k v p t l,
      changed-is t.attrs k ch l (change-within was now (t.old k) (t.cur k) (t.attrs k) v c m),
      past_is t.cur now k v l m,
      past_is t.old was k v l m,
    )
    (record {
      tells = S.tells;
      asm = ap (λ (x : Assembler). record { run = x.run; units = x.units; attrs = packed q.attrs; current = packed (as_set q.cur); old = packed (as_set q.old) }) S.asm;
      plain = S.plain;
    })

-- ---- any item

abbrev pub Small : Asm → Type 0
Small t = (k : ℕ) → t.cur k < 256

-- what a sound sheet's item is, as far as the assembler minds
abbrev pub Fair : What → Type 0
Fair (text s n) = n ≤ 16384
Fair (embed e) = Unit {0}
Fair (mark k v) = (k < 16) × (v < 256)

pub does : (was now : Bool) (w : What) (p : ℕ) (t : Asm) → Plain t.run → Small t → Fair w → Does was now w p t
does was now (text s n) p t h c f = text-does was now s n p t h
does was now (embed e) p t h c f = embed-does was now e p t h
does was now (mark k v) p t h c f = mark-does was now k v p t h f.0 f.1 (c k)

pub small-past : (was now : Bool) (w : What) (t : Asm) → Small t → Fair w → Small (passed_by was now w t)
small-past was false w t c f k = c k
small-past was true (text s n) t c f k = c k
small-past was true (embed e) t c f k = c k
small-past was true (mark j v) t c f k = go (eqb k j)
  where
    go : (b : Bool) → cond b v (t.cur k) < 256
    go true = f.1
    go false = c k

-- ---- how much the assembler counts

abbrev Loads : Option Kept → Turn → ℕ → Type 0
Loads r (Goes s) w = counted s ≤ counted r + w
Loads r (Starts s) w = inserted_by r + counted s ≤ counted r + w

grow-load : (k : Kind) (w : ℕ) (r : Option Kept) → Loads r (grow_by k w r) w
grow-load k w None = omega arith
grow-load k w (Some r) = go (same_kind r.kind k)
  where
    go : (b : Bool) → Loads (Some r) (cond b (Goes (of_kind k (r.width + w))) (Starts (of_kind k w))) w
    go true = omega arith
    go false = omega (arith, inserted-le (Some r))

grown-load : (was now : Bool) (w : ℕ) (r : Option Kept) → Loads r (grown_by was now w r) w
grown-load false false w r = omega arith
grown-load false true w r = grow-load _ w r
grown-load true false w r = grow-load _ w r
grown-load true true w r = grow-load _ w r

turned-load : (a : Assembler) (T : Turn) (w : ℕ) → Loads a.run T w → load (turned_by a T).asm ≤ load a + w
turned-load a (Goes r) w h = omega arith
turned-load a (Starts r) w h = omega arith

break-load : (r : Option Kept) (b : Bool) → Loads r (cond b (Starts None) (Goes r)) 0
break-load r true = omega (arith, inserted-le r)
break-load r false = omega arith

text-load : (was now : Bool) (n : ℕ) (a : Assembler) → load (text_by was now n a).asm ≤ load a + n
text-load was now n a = turned-load a (grown_by was now n a.run) n (grown-load was now n a.run)

pub pass-load : (was now : Bool) (w : What) (a : Assembler) → load (pass_by was now w a).asm ≤ load a + width w
pass-load was now (text s n) a = text-load was now n a
pass-load was now (embed e) a = go (not was && now)
  where
    go : (b : Bool) → load (cond b (tells_too (found (Insert (Embed e)) a.current) (turned_by a (Starts None))) (text_by was now 1 a)).asm ≤ load a + 1
    go true = omega (arith, turned-load a (Starts None) 0 (break-load a.run true))
    go false = text-load was now 1 a
pass-load was now (mark k v) a = turned-load a (mark_turn (pending_by was now k v a) now a.run) 0 (break-load a.run (breaks_by (pending_by was now k v a) now a.run))

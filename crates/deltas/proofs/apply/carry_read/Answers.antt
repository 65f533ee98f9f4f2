-- `deltas::apply::carry_read` meets its contract: each way by its law. Assumes nothing.
use Prim.Native.Nat.{ℕ, ◌+◌, ◌<◌, ◌≤◌}
use native.Mathlib.Omega.{arith}
use mathlib.Core.Path.{◌≡◌, refl, sym, ap, ◌∙◌}
use mathlib.Core.Bool.{cond}
use mathlib.Core.List.{List, ◌++◌, map}
use lib.Dec.{eqb}
use lib.ListN.{length, take}
use borrow.Author.Tests.{ne_eqb}
use Rattle.std.proofs.lemmas.Result.{err_from_is_err_and}
use Rattle.refusal.proofs.Numbered.{number-some}
use Rattle.rules.specs.Calls.{Call, apply_delta, new_units, check}
use Rattle.rules.specs.Delta.{delta}
use Rattle.rules.specs.Rulings.{seen}
use Rattle.layout.specs.Memory.{list_of, model_of, carry}
use Rattle.layout.proofs.Soundness.{sound-parts}
use Rattle.cuts.proofs.Sounds.{used-is, sound-reads, length-is}
use Rattle.changes.proofs.Sounds.{sound-loads}
use Rattle.changes.proofs.Calls.{carry-fault, carry-crowded, carry-granted}
use Rattle.changes.specs.Appends.{appended}
use Rattle.changes.specs.Frame.{Left, granted}
use Rattle.ops.specs.Ops.{op_of}
use Rattle.carrying.specs.Turns.{laid, bringing}
use Rattle.deltas.proofs.Applying.{delta-long, delta-granted}
use Rattle.deltas.proofs.apply.carry_read.Goals as goal
use Rattle.deltas.proofs.apply.carry_read.Goals.{Else-new-from, Start}

-- the call that is asked for
abbrev asked : Start → Call
asked s = apply_delta (map (op_of s.args.chunk.now) s.args.ops.now)

-- it has room for its units
fits : (c : Else-new-from) → (
    let a = c.args in
    a.h.units + bringing a.ops.now ≤ 16384
    )
fits c = omega (arith, c.if-new-from.false, c.from.ensures, c.total-new.ensures, (sound-parts _ _ _ c.requires.0).used)

-- carried out, or refused for its items
granted_as : (s : Start) → (
    let a = s.args in
    (new : ℕ) → new ≡ bringing a.ops.now → a.h.units + bringing a.ops.now ≤ 16384
    → 0 ≡ check (seen (model_of a.h a.items.now a.units.now)) 0 (map (op_of a.chunk.now) a.ops.now)
    → (x : Left) → x ≡ granted (delta (laid a.h.units a.ops.now) (list_of a.h a.items.now) a.h.items) (a.h.units + new) a.h a.items.now
    → (v : List ℕ) → v ≡ cond (eqb x.refusal 0) (appended a.h.units (new_units (map (op_of a.chunk.now) a.ops.now)) a.units.now) a.units.now
    → record { refusal = x.refusal; head = x.head; words = x.words; units = v } ≡ carry (asked s) a.h a.items.now a.units.now
    )
granted_as s new total room fine x ex v ev =
    let a = s.args in
    let long = delta-long a.chunk.now a.ops.now a.h a.items.now a.units.now s.requires.0 s.requires.3 ∙ ap (λ (n : ℕ). a.h.units + n) (sym total) in
    carry-granted (asked s) _ _ _ s.requires.0 _ refl _ fine refl _ long (omega (arith, room, total)) _
    (delta-granted a.chunk.now a.ops.now _ _ _ s.requires.0 s.requires.3 _ _ ex)
    v ev

pub slice_bounds-fault-end : goal.slice_bounds-fault-end
slice_bounds-fault-end c = let p = sound-parts _ _ _ c.requires.0 in omega (arith, p.room, p.used)

pub slice_bounds-fault-end-2 : goal.slice_bounds-fault-end-2
slice_bounds-fault-end-2 c = used-is _ _ _ c.requires.0

pub fault-requires : goal.fault-requires
fault-requires c = (sound-reads _ _ _ c.requires.0, length-is c.args.h c.args.items.now c.args.units.now _ c.requires.1, c.requires.3)

pub returns-in_err-fault : goal.returns-in_err-fault
returns-in_err-fault c =
    let p = err_from_is_err_and c.from_residual.result c.from_residual.ensures.1 in
    rw (p.1, p.2) (carry-fault (asked (goal.at.returns-in_err-fault c).Start) _ _ _ c.requires.0 _ refl _ c.in_err-fault.ensures)

pub overflow_sub-h : goal.overflow_sub-h
overflow_sub-h c = (sound-parts _ _ _ c.requires.0).used

pub returns-then-new-from : goal.returns-then-new-from
returns-then-new-from c =
    let s = (goal.at.returns-then-new-from c).Start in
    let a = s.args in
    let over : 16384 < length (take a.h.units a.units.now ++ new_units (map (op_of a.chunk.now) a.ops.now)) = omega (arith, c.if-new-from.true, c.from.ensures, c.total-new.ensures, delta-long a.chunk.now a.ops.now _ _ _ s.requires.0 s.requires.3) in
    carry-crowded (asked s) _ _ _ s.requires.0 _ refl _ c.in_ok-fault.ensures refl over

pub carry_all-requires : goal.carry_all-requires
carry_all-requires c = (sound-loads _ _ _ c.requires.0, fits (goal.at.carry_all-requires c).Else-new-from)

pub returns-in_err-head : goal.returns-in_err-head
returns-in_err-head c =
    let p = err_from_is_err_and c.from_residual-in_err-head.result c.from_residual-in_err-head.ensures.1 in
    rw (p.1, p.2)
    (granted_as (goal.at.returns-in_err-head c).Start _ c.total-new.ensures (fits (goal.at.returns-in_err-head c).Else-new-from) c.in_ok-fault.ensures _ c.in_err-head.ensures _ (rw (ne_eqb _ 0 (number-some c.in_err-head.field-0.0))))

pub append_all-requires : goal.append_all-requires
append_all-requires c = ((sound-parts _ _ _ c.requires.0).room, c.requires.3, fits (goal.at.append_all-requires c).Else-new-from)

pub returns : goal.returns
returns c =
    granted_as (goal.at.returns c).Start _ c.total-new.ensures (fits (goal.at.returns c).Else-new-from) c.in_ok-fault.ensures _ c.in_ok-head.ensures _ c.append_all.ensures

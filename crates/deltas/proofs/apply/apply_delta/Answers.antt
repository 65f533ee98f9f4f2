-- `deltas::apply::apply_delta` meets its contract: 9, 7 and 8, then what the rules decide. Assumes nothing.
use Prim.Native.Nat.{◌≤◌}
use native.Mathlib.Omega.{arith}
use mathlib.Core.Path.{◌≡◌, sym, ◌∙◌}
use mathlib.Core.Bool.{true, false}
use lib.ListN.{length}
use Rattle.rules.specs.Reading.{visible}
use Rattle.layout.specs.Memory.{list_of, sound_of}
use Rattle.sheet.proofs.Measured.{measured-ok, measured-err}
use Rattle.std.proofs.lemmas.Result.{err_from_is_err_and}
use Rattle.std.proofs.lemmas.List.{length-take}
use Rattle.ops.specs.declared.delta.DeltaOp.{DeltaOp}
use Rattle.ops.specs.Ops.{ops_of}
use Rattle.carrying.specs.Turns.{given}
use Rattle.deltas.specs.Checks.{any_past, many_of}
use Rattle.deltas.proofs.Reading.{many-none}
use Rattle.deltas.proofs.Applying.{carried-unsound, carried-many, carried-short, carried-ruled}
use Rattle.deltas.proofs.apply.apply_delta.Goals as goal
use Rattle.deltas.proofs.apply.apply_delta.Goals.{Else-many, In_ok-len}

sound-here : (c : In_ok-len) → (
    let a = c.args in
    (sound_of a.h a.items.now a.units.now ≡ true) × (c.in_ok-len.len ≡ visible (list_of a.h a.items.now))
    )
sound-here c = measured-ok _ _ _ _ c.measure.ensures (sym c.ok_or.ensures.value ∙ c.in_ok-len.was)

read_here : (c : Else-many) → (
    let a = c.args in
    many_of (length a.chunk.now) a.delta ≡ false
    )
read_here c = sym c.many.ensures ∙ c.if-many.false

pub returns-in_err-len : goal.returns-in_err-len
returns-in_err-len c =
    let p = err_from_is_err_and c.from_residual.result c.from_residual.ensures.1 in
    let m = measured-err _ _ _ _ c.measure.ensures (sym c.ok_or.ensures.value ∙ c.in_err-len.was) in
    rw (p.1, p.2, sym m.1) (carried-unsound _ _ _ _ _ _ _ m.0)

pub returns-then-many : goal.returns-then-many
returns-then-many c = carried-many _ _ _ _ _ _ _ (sound-here (goal.at.returns-then-many c).In_ok-len).0 (sym c.many.ensures ∙ c.if-many.true)

pub returns-then-short_scratch : goal.returns-then-short_scratch
returns-then-short_scratch c = carried-short _ _ _ _ _ _ _ (sound-here (goal.at.returns-then-short_scratch c).In_ok-len).0 (read_here (goal.at.returns-then-short_scratch c).Else-many) (sym c.short_scratch.ensures ∙ c.if-short_scratch.true)

-- the operations, which are no more than there may be and have their texts in the lent units
parts : (c : Else-many) → (c.args.delta.count ≤ 256) × (any_past (length c.args.chunk.now) (given c.args.delta) ≡ false)
parts c = many-none _ _ (read_here c)

pub operations-requires : goal.operations-requires
operations-requires c = (parts (goal.at.operations-requires c).Else-many).0

pub carry_read-requires : goal.carry_read-requires
carry_read-requires c =
    let sound = sound-here (goal.at.carry_read-requires c).In_ok-len in
    let p = parts (goal.at.carry_read-requires c).Else-many in
    rw c.operations.ensures
    (sound.0, sound.1, omega (arith, p.0, length-take {A = DeltaOp} c.args.delta.count c.args.delta.ops), p.1)

pub returns : goal.returns
unfolding ops_of
returns c =
    carried-ruled _ _ _ _ _ _ _ (sound-here (goal.at.returns c).In_ok-len).0 (read_here (goal.at.returns c).Else-many) (sym c.short_scratch.ensures ∙ c.if-short_scratch.false) _
    (rw c.operations.ensures at c.carry_read.ensures)

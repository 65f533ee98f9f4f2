-- `lookup::value_entry` meets its contract. Assumes nothing.
use native.Mathlib.Omega.{arith}
use mathlib.Core.Path.{◌∙◌}
use Rattle.table.proofs.Tables.{sound-parts}
use Rattle.lookup.proofs.Numbers.{number-given, kind_back, has_kind}
use Rattle.lookup.proofs.value_entry.Goals as goal

pub returns-in_err-kind : goal.returns-in_err-kind
returns-in_err-kind c =
    let given = number-given _ _ _ c.in_ok-slots.ensures.0 c.if-v-eq0.false c.if-v-h.false in
    let kind = rw (c.kind_at.ensures, c.in_ok-slots.ensures.1) at (c.in_err-kind.ensures.value ∙ c.try_from.ensures) in
    absurd (has_kind _ _ _ given kind)

pub kind_at-requires : goal.kind_at-requires
kind_at-requires c =
    let few = (sound-parts _ _ c.in_ok-slots.ensures.0).of_values.few in
    omega arith

pub content-requires : goal.content-requires
content-requires c =
    let few = (sound-parts _ _ c.in_ok-slots.ensures.0).of_values.few in
    omega arith

pub returns : goal.returns
returns c =
    let given = number-given _ _ _ c.in_ok-slots.ensures.0 c.if-v-eq0.false c.if-v-h.false in
    let kind = rw (c.kind_at.ensures, c.in_ok-slots.ensures.1) at (c.in_ok-kind.ensures.value ∙ c.try_from.ensures) in
    let content = rw c.in_ok-slots.ensures.1 at c.content.ensures in
    (given, kind_back _ _ kind, content)

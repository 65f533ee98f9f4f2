-- `table::ask` meets its contract. Assumes nothing.
use native.Mathlib.Omega.{arith}
use mathlib.Core.Path.{refl, sym, ap, ◌∙◌}
use Rattle.std.specs.Prelude.{Ok}
use Rattle.std.proofs.lemmas.Result.{err_from_is_err_and}
use borrow.Author.Tests.{ne_eqb}
use Rattle.table.specs.Sound.{sound_of}
use Rattle.table.specs.Ask.{ask_of, outcome}
use Rattle.table.proofs.Tables.{sound-parts, shelf-room}
use Rattle.table.proofs.Asks.{ask_case, known_facts, fresh-facts}
use Rattle.table.proofs.ask.Goals as goal

pub returns-in_default : goal.returns-in_default
unfolding ask_of sound_of
returns-in_default c = rw (ne_eqb _ _ c.in_default.ensures.cases) (refl, refl)

pub returns-then-not-in_order : goal.returns-then-not-in_order
unfolding ask_of
returns-then-not-in_order c =
    let fails = sym c.in_order.ensures ∙ c.if-not-in_order.true in
    rw (← c.in-Some.ensures.cases.same, fails) (refl, refl)

pub decide-requires : goal.decide-requires
decide-requires c =
    let is = sound-parts _ _ (sym c.in_order.ensures ∙ c.if-not-in_order.false) in
    let room = shelf-room _ _ _ is _ c.shelf-s.ensures in
    omega arith

pub returns-in_err-known : goal.returns-in_err-known
unfolding outcome
returns-in_err-known c =
    let is = sym c.in_order.ensures ∙ c.if-not-in_order.false in
    let handed = err_from_is_err_and c.from_residual.result c.from_residual.ensures.1 in
    rw (← c.in-Some.ensures.cases.same, ask_case _ _ _ _ is _ c.shelf-s.ensures _ c.in_err-known.ensures, handed.1, handed.2) (refl, refl)

pub overflow_add-result : goal.overflow_add-result
overflow_add-result c =
    let is = sound-parts _ _ (sym c.in_order.ensures ∙ c.if-not-in_order.false) in
    let room = shelf-room _ _ _ is _ c.shelf-s.ensures in
    let there = known_facts _ _ _ _ _ _ _ c.in_ok-known.ensures _ (ap Ok c.in-Some-known.is) in
    omega (arith, there.below)

pub overflow_cast-result : goal.overflow_cast-result
overflow_cast-result c =
    let is = sound-parts _ _ (sym c.in_order.ensures ∙ c.if-not-in_order.false) in
    let room = shelf-room _ _ _ is _ c.shelf-s.ensures in
    let there = known_facts _ _ _ _ _ _ _ c.in_ok-known.ensures _ (ap Ok c.in-Some-known.is) in
    omega (arith, there.below)

pub overflow_add-s : goal.overflow_add-s
overflow_add-s c =
    let is = sound-parts _ _ (sym c.in_order.ensures ∙ c.if-not-in_order.false) in
    let room = shelf-room _ _ _ is _ c.shelf-s.ensures in
    omega arith

pub put-requires : goal.put-requires
put-requires c =
    let is = sound-parts _ _ (sym c.in_order.ensures ∙ c.if-not-in_order.false) in
    let room = shelf-room _ _ _ is _ c.shelf-s.ensures in
    let new = fresh-facts _ _ _ _ _ _ _ c.in_ok-known.ensures (ap Ok c.in-None.is) in
    (omega (arith, new.left), new.short)

pub overflow_add-result-in-None : goal.overflow_add-result-in-None
overflow_add-result-in-None c =
    let is = sound-parts _ _ (sym c.in_order.ensures ∙ c.if-not-in_order.false) in
    let room = shelf-room _ _ _ is _ c.shelf-s.ensures in
    omega arith

pub overflow_cast-result-in-None : goal.overflow_cast-result-in-None
overflow_cast-result-in-None c =
    let is = sound-parts _ _ (sym c.in_order.ensures ∙ c.if-not-in_order.false) in
    let room = shelf-room _ _ _ is _ c.shelf-s.ensures in
    omega arith

pub grown-requires : goal.grown-requires
grown-requires c =
    let is = sound-parts _ _ (sym c.in_order.ensures ∙ c.if-not-in_order.false) in
    (is.of-names.few, is.of_values.few)

pub returns-in-Some-known : goal.returns-in-Some-known
unfolding outcome
returns-in-Some-known c =
    let is = sym c.in_order.ensures ∙ c.if-not-in_order.false in
    rw (← c.in-Some.ensures.cases.same, ask_case _ _ _ _ is _ c.shelf-s.ensures _ c.in_ok-known.ensures, c.in-Some-known.is) (refl, refl)

pub returns-in-None : goal.returns-in-None
unfolding outcome
returns-in-None c =
    let is = sym c.in_order.ensures ∙ c.if-not-in_order.false in
    rw (← c.in-Some.ensures.cases.same, ask_case _ _ _ _ is _ c.shelf-s.ensures _ c.in_ok-known.ensures, c.in-None.is) (
      rw c.grown.ensures refl,
      rw c.from.ensures at c.put.ensures,
    )

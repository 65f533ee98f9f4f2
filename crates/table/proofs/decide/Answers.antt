-- `table::decide` meets its contract. Assumes nothing.
use native.Mathlib.Omega.{arith}
use mathlib.Core.Path.{sym, ◌∙◌}
use Rattle.table.proofs.Asks.{is-long, is_known, is-fresh, is-full}
use Rattle.table.proofs.decide.Goals as goal

pub returns-then-too_long : goal.returns-then-too_long
returns-then-too_long c = sym (is-long _ _ _ _ _ _ (sym c.too_long.ensures ∙ c.if-too_long.true))

pub returns-in-Some : goal.returns-in-Some
returns-in-Some c =
    let fine = sym c.too_long.ensures ∙ c.if-too_long.false in
    let there = rw c.from.ensures at c.in-Some.ensures in
    sym (is_known _ _ _ _ _ _ fine _ (sym there.1) there.0)

pub returns-in-None : goal.returns-in-None
returns-in-None c =
    let fine = sym c.too_long.ensures ∙ c.if-too_long.false in
    let new = rw c.from.ensures at c.in-None.ensures in
    sym (is-fresh _ _ _ _ _ _ fine _ (sym new) (omega arith) c.if-s.true)

pub returns-in-None-2 : goal.returns-in-None-2
returns-in-None-2 c =
    let fine = sym c.too_long.ensures ∙ c.if-too_long.false in
    let new = rw c.from.ensures at c.in-None.ensures in
    sym (is-full _ _ _ _ _ _ fine _ (sym new) (omega arith) c.if-s.false)

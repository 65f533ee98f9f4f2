-- `layout::list::ItemsIterator::next` meets its contract. Assumes nothing.
use native.Mathlib.Omega.{arith}
use mathlib.Core.Path.{sym, ap}
use lib.ListN.{length}
use borrow.Author.Tests.{ltb-true}
use Rattle.layout.proofs.Steps.{steps-end, steps-out, steps-more}
use Rattle.layout.proofs.list.ItemsIterator.next.Goals as goal

pub returns-then-self-eq0-clause-steps : goal.returns-then-self-eq0-clause-steps
returns-then-self-eq0-clause-steps c =
    let none = steps-end _ _ _ (omega (arith, c.if-self-eq0.true)) in
    (none, none)

pub returns-in_err-word-clause-steps : goal.returns-in_err-word-clause-steps
returns-in_err-word-clause-steps c =
    let none = steps-out c.args.self.now.todo _ _ (omega (arith, c.in_err-word.ensures.lookup)) in
    rw c.from_residual.ensures (none, none)

pub returns-clause-steps : goal.returns-clause-steps
returns-clause-steps c =
    let read = c.in_ok-word.ensures.lookup in
    rw c.unpack-it.ensures (steps-more _ _ _ _ (omega (arith, c.if-self-eq0.false)) (ltb-true _ _ (sym read.0)) read.1)

pub returns-clause-goes : goal.returns-clause-goes
returns-clause-goes c =
    let i = c.args.self.now in
    let read = c.in_ok-word.ensures.lookup in
    let more = steps-more i.todo i.items.now i.at c.in_ok-word.word.now (omega (arith, c.if-self-eq0.false)) (ltb-true _ _ (sym read.0)) read.1 in
    rw c.unpack-it.ensures (record { on = λ _. (tt, tt, omega (arith, ap length more)); keeps = tt; rests = λ _. tt })

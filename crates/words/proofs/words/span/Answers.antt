use mathlib.Core.Path.{sym, ◌∙◌}
use native.Mathlib.Omega.{arith}
use Rattle.words.proofs.Spans.{spans-some, spans-none}
use Rattle.words.proofs.words.span.Goals as goal

pub overflow_add-result : goal.overflow_add-result
overflow_add-result c =
    let e = spans-some c.args.class c.args.s.now c.args.from c.requires c.in-Some.i (sym c.first_other.ensures ∙ c.in-Some.is) in
    omega (arith, e.high)

pub returns-in-Some : goal.returns-in-Some
returns-in-Some c = spans-some c.args.class c.args.s.now c.args.from c.requires c.in-Some.i (sym c.first_other.ensures ∙ c.in-Some.is)

pub returns-in-None : goal.returns-in-None
returns-in-None c = spans-none c.args.class c.args.s.now c.args.from c.requires (sym c.first_other.ensures ∙ c.in-None.is)

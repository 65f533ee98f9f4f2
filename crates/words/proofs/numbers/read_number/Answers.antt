use mathlib.Core.Path.{◌∙◌}
use native.Mathlib.Omega.{arith}
use Rattle.words.proofs.Figures.{reading-end, reading-stray, reading-wrong, reading-over, reading_step}
use Rattle.words.proofs.numbers.read_number.Goals as goal

pub returns-in_err-d : goal.returns-in_err-d
returns-in_err-d c = c.from_residual.ensures ∙ reading-stray c.loop-b.invariant c.loop-b-test.true c.from.ensures c.requires.base_bound c.in_err-d.ensures.value

pub returns-then-from-base : goal.returns-then-from-base
returns-then-from-base c = reading-wrong c.loop-b.invariant c.loop-b-test.true c.from.ensures c.in_ok-d.ensures.value (omega (arith, c.if-from-base.true, c.from-in-loop-b.ensures))

pub returns-in_err-checked_mul : goal.returns-in_err-checked_mul
returns-in_err-checked_mul c = c.from_residual-in_err-checked_mul.ensures ∙ reading-over c.loop-b.invariant c.loop-b-test.true c.from.ensures c.in_ok-d.ensures.value c.requires.base_nonzero (omega (arith, c.if-from-base.false, c.from-in-loop-b.ensures)) (omega (arith, c.in_err-checked_mul.ensures))

pub returns-in_err-value : goal.returns-in_err-value
returns-in_err-value c = c.from_residual-in_err-value.ensures ∙ reading-over c.loop-b.invariant c.loop-b-test.true c.from.ensures c.in_ok-d.ensures.value c.requires.base_nonzero (omega (arith, c.if-from-base.false, c.from-in-loop-b.ensures)) (omega (arith, c.in_ok-checked_mul.ensures, c.in_err-value.ensures))

pub loop-b-preserved : goal.loop-b-preserved
loop-b-preserved c = reading_step c.loop-b.invariant c.loop-b-test.true c.from.ensures c.in_ok-d.ensures.value (omega (arith, c.if-from-base.false, c.from-in-loop-b.ensures)) (omega (arith, c.in_ok-checked_mul.ensures, c.in_ok-value.ensures)) (omega (arith, c.in_ok-checked_mul.ensures, c.in_ok-value.ensures))

pub returns : goal.returns
returns c = reading-end c.loop-b.invariant (omega arith)

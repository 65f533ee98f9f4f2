-- `deltas::checks::many` meets its contract. Assumes nothing.
use mathlib.Core.Path.{sym, ap, ◌∙◌}
use mathlib.Core.List.{List}
use borrow.Author.Tests.{lt-ltb}
use Rattle.ops.specs.declared.delta.DeltaOp.{DeltaOp}
use Rattle.deltas.specs.Checks.{any_past}
use Rattle.deltas.proofs.Reading.{many-count, many-parts}
use Rattle.deltas.proofs.checks.many.Goals as goal

pub returns-then-delta-gt-OPS : goal.returns-then-delta-gt-OPS
returns-then-delta-gt-OPS c = lt-ltb 256 _ c.if-delta-gt-OPS.true ∙ many-count _ _ c.if-delta-gt-OPS.true

pub returns-else-delta-gt-OPS : goal.returns-else-delta-gt-OPS
returns-else-delta-gt-OPS c = many-parts _ _ c.if-delta-gt-OPS.false _ (sym (c.any_past.ensures ∙ ap (λ (l : List DeltaOp). any_past c.args.n l) c.operations.ensures))

-- `attrs::Attrs::same` meets its contract.
use mathlib.Core.Path.{ap, ◌∙◌}
use borrow.Author.Rules.{rules}
use native.Mathlib.Omega.{arith}
use Rattle.attrs.specs.declared.Attrs.{Attrs}
use Rattle.sets.specs.Sets.{keys, bare}
use Rattle.attrs.specs.Packed.{says}
use Rattle.attrs.proofs.Tests.{other_keys, same-none-differs, bare-packed}
use Rattle.attrs.proofs.Attrs.same.Goals as goal

pub returns-then-self-other : goal.returns-then-self-other
returns-then-self-other c = other_keys _ _ (search rules) (search rules) c.if-self-other.true

pub returns : goal.returns
returns c =
    let a = c.args in
    c.is_empty.ensures
    ∙ ap (λ (x : Attrs). bare keys (says x)) c.differing.ensures
    ∙ bare-packed _
    ∙ same-none-differs a.self a.other (omega arith)

-- `cuts::cuts_pair` meets its contract: units without a half are not cut, else the walk decides. Assumes nothing.
use mathlib.Core.Path.{sym, ◌∙◌}
use borrow.Author.Tests.{eqb-true}
use Rattle.layout.specs.Memory.{list_of}
use Rattle.cuts.proofs.Bare.{none-cut}
use Rattle.cuts.proofs.cuts_pair.Goals as goal

pub returns-else-not-is_plain : goal.returns-else-not-is_plain
returns-else-not-is_plain c =
    let a = c.args in
    let plain = c.if-not-is_plain.false in
    rw plain (sym (none-cut a.used.now (list_of a.h a.items.now) a.index (eqb-true _ _ (sym c.is_plain.ensures ∙ plain))))

-- `marks::dropped` meets its contract. Assumes nothing.
use mathlib.Core.Path.{ap, ◌∙◌}
use Rattle.attrs.specs.Packed.{says}
use Rattle.attrs.proofs.Force.{says-without}
use Rattle.marks.proofs.dropped.Goals as goal

pub returns-in-Mark : goal.returns-in-Mark
returns-in-Mark c =
    let live = rw c.unpack-it.ensures at c.if-it.false in
    let mark = rw c.unpack-it.ensures at c.in-Mark.is in
    rw (live, mark) (ap says c.without.ensures ∙ says-without c.args.remembered _)

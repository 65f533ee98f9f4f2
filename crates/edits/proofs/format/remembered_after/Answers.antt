-- `edits::format::remembered_after` meets its contract. Assumes nothing.
use mathlib.Core.Path.{sym, ap, ◌∙◌}
use Rattle.attrs.proofs.Force.{says-without, says-with}
use Rattle.attrs.specs.Packed.{Took, says}
use Rattle.layout.specs.declared.word.Content.TheVariants.{Mark}
use Rattle.arena.specs.Places.{InRange}
use Rattle.edits.proofs.format.remembered_after.Goals as goal

pub returns-then-agrees : goal.returns-then-agrees
returns-then-agrees c =
    let k = rw c.unpack.ensures at c.in-Mark.is in
    rw (k, sym c.agrees.ensures ∙ c.if-agrees.true) (ap says c.without.ensures ∙ says-without c.args.remembered _)

pub returns-else-agrees : goal.returns-else-agrees
returns-else-agrees c =
    let k = rw c.unpack.ensures at c.in-Mark.is in
    let b : InRange (Mark _ _) = rw k at c.requires.range in
    rw (k, sym c.agrees.ensures ∙ c.if-agrees.false) (ap says (c.unwrap_or.ensures ∙ ap (λ (t : Took). t.attrs) c.with.ensures) ∙ says-with c.args.remembered _ _ b.0 b.1)

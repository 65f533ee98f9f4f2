-- `soundness::word_ok` meets its contract: each test is one of the word's. Assumes nothing.
use mathlib.Core.Path.{sym, ◌∙◌}
use Rattle.units.proofs.Halves.{and_no-left, and_no-right}
use Rattle.layout.specs.Word.{in_range}
use Rattle.layout.specs.Memory.{word_ok}
use Rattle.layout.proofs.Soundness.{word_on}
use Rattle.soundness.proofs.word_ok.Goals as goal
use Rattle.soundness.proofs.word_ok.Goals.{then-not-in_range-via-then-not-in_range, then-not-in_range-via-else-not-in_range+then-not-flags_ok}

pub returns-then-not-in_range : goal.returns-then-not-in_range
unfolding word_ok
returns-then-not-in_range c =
    let f = c.flags_of-dead.ensures in
    sym (elim c.then-not-in_range.branch [
      | then-not-in_range-via-then-not-in_range w ↦ and_no-left _ _ (sym c.in_range.ensures ∙ w.if-not-in_range.true)
      | then-not-in_range-via-else-not-in_range+then-not-flags_ok w ↦
          and_no-right (in_range c.args.w) _ (and_no-left _ _ (rw (f.gone, f.added, f.dead) at (sym w.flags_ok.ensures ∙ w.if-not-flags_ok.true)))
    ])

pub returns : goal.returns
returns c =
    let f = c.flags_of-dead.ensures in
    let range = sym c.in_range.ensures ∙ c.if-not-in_range.false in
    let flags = rw (f.gone, f.added, f.dead) at (sym c.flags_ok.ensures ∙ c.if-not-flags_ok.false) in
    rw (c.kind_of.ensures, c.payload_of.ensures.value) at c.content_ok.ensures ∙ sym (word_on _ _ _ range flags)

-- `entries::soundness::repeats` meets its contract. Assumes nothing.
use mathlib.Core.Path.{◌∙◌}
use Rattle.entries.specs.Entry.{entry_at}
use Rattle.entries.proofs.Entries.{length-entries}
use Rattle.entries.proofs.Seeks.{found_among}
use Rattle.entries.proofs.soundness.repeats.Goals as goal

pub returns : goal.returns
unfolding entry_at
returns c =
    let found = c.is_some.ensures ∙ found_among _ _ _ (length-entries _ _ _) _ c.find.ensures in
    rw (c.kind_at-kind.ensures, c.content.ensures) at found

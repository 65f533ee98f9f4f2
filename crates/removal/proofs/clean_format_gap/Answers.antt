-- `removal::clean_format_gap` meets its contract: its two walks are rule Tidy. Assumes nothing.
use Rattle.removal.proofs.Tidies.{gap-tidied}
use Rattle.removal.proofs.clean_format_gap.Goals as goal

pub returns : goal.returns
returns c = gap-tidied c.requires.0 c.requires.1 c.requires.2 c.gap_end-end.ensures c.tidy_until-tidied.ensures c.tidy_until.ensures

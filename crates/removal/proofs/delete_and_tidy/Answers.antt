-- `removal::delete_and_tidy` meets its contract. Assumes nothing.
use Rattle.arena.proofs.Walks.{kept-asks}
use Rattle.removal.proofs.Tidies.{again, stop-later, deleted-tidied}
use Rattle.removal.proofs.delete_and_tidy.Goals as goal

pub kept-start-requires : goal.kept-start-requires
kept-start-requires c = kept-asks c.requires.0 c.delete_units-done.ensures

pub clean_format_gap-place-requires : goal.clean_format_gap-place-requires
clean_format_gap-place-requires c =
    let s = c.requires.0 in
    let d = c.delete_units-done.ensures in
    let k = c.kept-start.ensures in
    ((again s _ d _ k).stands, d.stands, stop-later s _ d _ k)

pub returns : goal.returns
returns c = deleted-tidied c.requires.0 _ c.delete_units-done.ensures _ c.kept-start.ensures c.clean_format_gap-place.ensures

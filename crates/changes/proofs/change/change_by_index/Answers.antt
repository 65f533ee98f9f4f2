-- `changes::change::change_by_index` meets its contract: the place, then the change. Assumes nothing.
use native.Mathlib.Omega.{arith}
use Rattle.laws.proofs.Room.{place-next}
use Rattle.marks.proofs.Rooms.{carried-room}
use Rattle.changes.proofs.change.change_by_index.Goals as goal

pub change_at-requires : goal.change_at-requires
change_at-requires c = (c.find_position-at.ensures.stands, omega (arith, c.requires.1, carried-room c.find_position-at.ensures 1 (λ e l n. omega (arith, place-next c.args.index l n))), c.requires.2)

-- `changes::frame::edit` meets its contract. Assumes nothing.
use Rattle.std.proofs.Common.{rules}
use Rattle.changes.specs.Changes.{move_of}
use Rattle.changes.proofs.Works.{tried_loaded}
use Rattle.changes.proofs.frame.edit.Goals as goal

pub returns : goal.returns
returns c = c.in_working_copy.ensures _ (λ k copy new k' call. tried_loaded c.args.index (move_of c.args.change) c.args.h.items copy.list (search rules))

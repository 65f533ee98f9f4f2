-- `carrying::frame::carry_all` meets its contract. Assumes nothing.
use Rattle.std.proofs.Common.{rules}
use Rattle.carrying.specs.Turns.{laid}
use Rattle.carrying.proofs.Frames.{stands-first, tried-all}
use Rattle.carrying.proofs.frame.carry_all.Goals as goal

pub in_working_copy-requires-clause-callable : goal.in_working_copy-requires-clause-callable
in_working_copy-requires-clause-callable c k copy = let stands = stands-first copy.arena c.start.ensures in search rules

pub returns : goal.returns
returns c = c.in_working_copy.ensures _ (λ k copy new k' call. tried-all copy.arena c.start.ensures (laid c.args.h.units c.args.ops.now) copy.list (search rules))

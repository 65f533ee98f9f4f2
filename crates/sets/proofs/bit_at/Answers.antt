-- `sets::bit_at` meets its contract.
use Rattle.sets.proofs.Bits.{bit_is}
use borrow.Author.Rules.{rules}
use Rattle.sets.proofs.bit_at.Goals as goal

pub returns : goal.returns
returns c = search (rules, bit_is)

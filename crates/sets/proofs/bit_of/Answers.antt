-- `sets::bit_of` meets its contract: 1 shifted by key is 2 ^ key, which is below 2 ^ 16.
use mathlib.Core.Path.{◌∙◌}
use borrow.Author.Rules.{rules}
use native.Mathlib.Nat.{one-mul}
use lib.Dec.{lit<}
use lib.Pow.{shl_exact}
use Rattle.sets.proofs.bit_of.Goals as goal

pub returns : goal.returns
returns c = shl_exact 1 c.args.key 16 (lit< tt) (search rules) ∙ one-mul _

-- `refusals::removal_fault` meets its contract. Assumes nothing.
use native.Mathlib.Omega.{arith}
use Prim.Native.Nat.{ℕ}
use mathlib.Core.List.{List}
use Rattle.rules.specs.Rulings.{seen}
use Rattle.layout.specs.Memory.{model_of}
use Rattle.cuts.proofs.Sounds.{length-is}
use Rattle.refusals.proofs.Ranges.{fault-short, fault-none}
use Rattle.refusals.proofs.removal_fault.Goals as goal
use Rattle.refusals.proofs.removal_fault.Goals.{Start, else-n-gt0-via-then-n-gt0+else-from, else-n-gt0-via-else-n-gt0}

abbrev text : Start → List ℕ
text s = seen (model_of s.args.h s.args.items.now s.args.units.now)

pub returns-then-from : goal.returns-then-from
returns-then-from c =
    let long = length-is c.args.h c.args.items.now c.args.units.now _ c.requires.1 in
    fault-short (text (goal.at.returns-then-from c).Start) c.args.index c.args.n c.in_ok-range_fault.ensures (omega (arith, long, c.if-from.true, c.from-then-n-gt0.ensures, c.from-then-n-gt0-2.ensures, c.from.ensures))

pub returns : goal.returns
returns c =
    let long = length-is c.args.h c.args.items.now c.args.units.now _ c.requires.1 in
    elim c.else-n-gt0.branch [
      | else-n-gt0-via-then-n-gt0+else-from w ↦ fault-none (text (goal.at.returns c).Start) c.args.index c.args.n c.in_ok-range_fault.ensures (omega (arith, long, w.if-from.false, w.from-then-n-gt0.ensures, w.from-then-n-gt0-2.ensures, w.from.ensures))
      | else-n-gt0-via-else-n-gt0 w ↦ fault-none (text (goal.at.returns c).Start) c.args.index c.args.n c.in_ok-range_fault.ensures (omega (arith, w.if-n-gt0.false))
    ]

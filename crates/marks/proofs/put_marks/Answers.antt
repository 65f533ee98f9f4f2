-- `marks::put_marks` meets its contract: the keys that are left have still to get their marks. Assumes nothing.
use mathlib.Core.Path.{◌≡◌}
use borrow.Author.Rules.{rules}
use Rattle.attrs.proofs.Slots.{Turn, turn-lowest}
use Rattle.marks.proofs.Puts.{marking-start, marking-end, marking-asks, marking-turn}
use Rattle.marks.proofs.put_marks.Goals as goal
use Rattle.marks.proofs.put_marks.Goals.{In-Some}

-- the key of a turn
met : (c : In-Some) → Turn c.args.set.mask c.loop-key.key-iterator.left c.in-Some.key c.next.new.self.left
met c = let s = c.in-Some.ensures.steps in turn-lowest _ _ c.loop-key.invariant.part s.0 s.1

pub loop-key-init : goal.loop-key-init
loop-key-init c =
    let all : c.into_iter-key-iterator.result.left ≡ c.args.set.mask = cc in
    rw all (marking-start _ c.requires.0 c.requires.1 (search rules))

pub put-at-requires : goal.put-at-requires
put-at-requires c = marking-asks c.loop-key.invariant (met (goal.at.put-at-requires c).In-Some) c.get-value.ensures

pub loop-key-preserved : goal.loop-key-preserved
loop-key-preserved c = marking-turn c.loop-key.invariant (met (goal.at.loop-key-preserved c).In-Some) c.get-value.ensures c.put-at.ensures

pub returns : goal.returns
returns c = marking-end c.loop-key.invariant (c.in-None.ensures.steps).0

use mathlib.Core.Path.{◌≡◌}
use borrow.Author.Rules.{rules}
use Rattle.words.proofs.Writing.{listing_start, listing_step, listing-done, listing-room}
use Rattle.words.proofs.show.put_attrs.Goals as goal

pub loop-key-init : goal.loop-key-init
loop-key-init c =
    let all : c.into_iter-key-iterator.result.left ≡ c.args.set.mask = cc in
    rw all (listing_start (search rules) c.requires)

pub put_pair-at-requires : goal.put_pair-at-requires
put_pair-at-requires c = let s = c.in-Some.ensures.steps in listing-room c.loop-key.invariant s.0 s.1

pub loop-key-preserved : goal.loop-key-preserved
loop-key-preserved c = let s = c.in-Some.ensures.steps in listing_step c.loop-key.invariant s.0 s.1 c.get.ensures c.put_pair-at.ensures

pub returns : goal.returns
returns c = listing-done c.loop-key.invariant (c.in-None.ensures.steps).0

use mathlib.Core.Path.{◌≡◌}
use lib.ListN.{length}
use Rattle.layout.specs.Word.{what_of}
use Rattle.ranges.specs.Texts.{left, Reads, Shows}
use Rattle.ranges.proofs.SeenIterator.next.Given as goal

abbrev pub invariant-loop-self : goal.invariant-loop-self
invariant-loop-self l = record {
  reads : Reads l.self.items.now l.self.units.now l.self.at l.self.todo;
  shows : Shows (length l.self.units.now) (what_of l.self.content) l.self.width;
  same : left l.initial.self ≡ left l.self;
}

abbrev pub decreases-loop-self : goal.decreases-loop-self
decreases-loop-self l = l.self.todo

use Rattle.sets.specs.Sets.{completed}
use Rattle.attrs.specs.Packed.{env_of, says}
use Rattle.attrs.proofs.Walk.{Walk}
use Rattle.attrs.proofs.Attrs.unset_missing.Given as goal

abbrev pub invariant-loop-key : goal.invariant-loop-key
invariant-loop-key l = Walk l.force.mask l.key-iterator.left l.self (completed (says l.self) (env_of l.force)) l.out

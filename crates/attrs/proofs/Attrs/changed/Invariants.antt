use Rattle.sets.specs.Sets.{empty}
use Rattle.attrs.specs.Packed.{env_of, packed, says, changed}
use Rattle.attrs.proofs.Walk.{Walk}
use Rattle.attrs.proofs.Attrs.changed.Given as goal

abbrev pub invariant-loop-key : goal.invariant-loop-key
invariant-loop-key l = Walk l.self.mask l.key-iterator.left (packed empty) (changed (says l.self) (env_of l.force) (env_of l.from)) l.out

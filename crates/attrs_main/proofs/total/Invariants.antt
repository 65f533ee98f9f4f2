use mathlib.Core.Path.{◌≡◌}
use Prim.Native.Nat.{◌+◌, ◌*◌, ◌≤◌}
use lib.ListN.{length}
use Rattle.sets.specs.Bits.{keys_of}
use Rattle.attrs.specs.Packed.{env_of}
use Rattle.attrs.proofs.Slots.{Part}
use Rattle.attrs_main.specs.Sum.{sum_of}
use Rattle.attrs_main.proofs.total.Given as goal

-- what is summed and what is left make the whole; a key adds at most 255
abbrev pub invariant-loop-key : goal.invariant-loop-key
invariant-loop-key l =
    Part l.a.mask l.key-iterator.left
    × (l.sum + sum_of (env_of l.a) (keys_of l.key-iterator.left) ≡ sum_of (env_of l.a) (keys_of l.a.mask))
    × (l.sum + 255 * length (keys_of l.key-iterator.left) ≤ 4080)

-- `attrs::Attrs::with` meets its contract.
use Prim.Native.Nat.{◌<◌}
use borrow.Author.Tests.{le-ltb, lt-ltb}
use native.Mathlib.Omega.{arith}
use Rattle.attrs.proofs.Attrs.with.Goals as goal
use Rattle.attrs.proofs.Attrs.with.Goals.{then-key-ge-KEYS-via-then-key-ge-KEYS, then-key-ge-KEYS-via-else-key-ge-KEYS+then-value-gt-LARGEST}

pub returns-then-key-ge-KEYS : goal.returns-then-key-ge-KEYS
returns-then-key-ge-KEYS c =
    elim c.then-key-ge-KEYS.branch [
      | then-key-ge-KEYS-via-then-key-ge-KEYS w ↦ simp (le-ltb _ _ w.if-key-ge-KEYS.true)
      | then-key-ge-KEYS-via-else-key-ge-KEYS+then-value-gt-LARGEST w ↦
          simp (lt-ltb _ _ w.if-key-ge-KEYS.false, le-ltb _ _ w.if-value-gt-LARGEST.true)
    ]

pub returns : goal.returns
returns c =
    let l : c.args.value < 256 = omega arith in
    simp (lt-ltb _ _ c.if-key-ge-KEYS.false, lt-ltb _ _ l, c.put.ensures)

-- `lookup::name_bytes` meets its contract. Assumes nothing.
use native.Mathlib.Omega.{arith}
use Rattle.lookup.proofs.Numbers.{given-name}
use Rattle.lookup.proofs.name_bytes.Goals as goal

pub content-requires : goal.content-requires
content-requires c =
    let given = given-name _ _ _ c.in-Some.ensures.0 in
    let few = given.0.of-names.few in
    omega arith

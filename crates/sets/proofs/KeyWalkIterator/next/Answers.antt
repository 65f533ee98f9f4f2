-- `sets::KeyWalk::next` meets its contract: a mask without a lowest key is 0, and the rest of any other is smaller.
use Rattle.std.proofs.Common.{rules, arith, sym, ◌≡◌, ℕ, ◌<◌}
use Rattle.std.specs.Prelude.{Some, None}
use Rattle.sets.specs.Bits.{keys_of, first_key}
use Rattle.sets.proofs.Keys.{first-at, first-nothing}
use Rattle.sets.proofs.KeyWalkIterator.next.Goals as goal

pub returns-in_err-key-clause-steps : goal.returns-in_err-key-clause-steps
returns-in_err-key-clause-steps c =
    let none : first_key (keys_of c.args.self.now.left) ≡ None = sym c.in_err-key.ensures in
    let z : c.args.self.now.left ≡ 0 = first-nothing _ (search rules) none in
    rw c.from_residual.ensures (z, z)

pub returns-clause-goes : goal.returns-clause-goes
returns-clause-goes c =
    let some : first_key (keys_of c.args.self.now.left) ≡ Some c.in_ok-key.key = sym c.in_ok-key.ensures in
    let full : c.args.self.now.left ≡ 0 → ⊥ = (first-at _ _ (search rules) some).0 in
    let less = c.rest-self.ensures.less in
    let lt : c.rest-self.result < c.args.self.now.left = omega arith in
    search rules

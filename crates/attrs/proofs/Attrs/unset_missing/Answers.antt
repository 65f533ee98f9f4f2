-- `attrs::Attrs::unset_missing` meets its contract: a walk over the keys of what is in force, that stores into the set itself.
use mathlib.Core.Path.{◌≡◌}
use native.Mathlib.Omega.{arith}
use borrow.Author.Rules.{rules}
use Rattle.attrs.specs.Packed.{env_of}
use Rattle.attrs.proofs.Slots.{env-clear, Turn, turn-lowest}
use Rattle.attrs.proofs.Changes.{completed-none, completed-keeps, completed-puts}
use Rattle.attrs.proofs.Walk.{begins, ends, visit-put, visit-keep}
use Rattle.attrs.proofs.Attrs.unset_missing.Goals as goal
use Rattle.attrs.proofs.Attrs.unset_missing.Goals.{In-Some, else-get-ne0-via-then-get-ne0+else-bit_at-eq0, else-get-ne0-via-else-get-ne0}

-- the key of a turn
met : (c : In-Some) → Turn c.args.force.mask c.loop-key.key-iterator.left c.in-Some.key c.next.new.self.left
met c = let s = c.in-Some.ensures.steps in turn-lowest _ _ c.loop-key.invariant.part s.0 s.1

pub loop-key-init : goal.loop-key-init
loop-key-init c =
    let a = c.args in
    let all : c.into_iter-key-iterator.result.left ≡ a.force.mask = cc in
    rw all (begins _ _ _ (search rules) (search rules) (λ j e. completed-none a.self (env_of a.force) j (env-clear a.force j e)))

pub bit_at-requires : goal.bit_at-requires
bit_at-requires c = (met (goal.at.bit_at-requires c).In-Some).lt

pub put-out-requires-clause-key_bound : goal.put-out-requires-clause-key_bound
put-out-requires-clause-key_bound c = (met (goal.at.put-out-requires-clause-key_bound c).In-Some).lt

pub loop-key-preserved-then-bit_at-eq0 : goal.loop-key-preserved-then-bit_at-eq0
loop-key-preserved-then-bit_at-eq0 c =
    let a = c.args in
    visit-put c.loop-key.invariant (met (goal.at.loop-key-preserved-then-bit_at-eq0 c).In-Some) c.put-out.ensures
    (completed-puts a.self (env_of a.force) _ (omega arith) (λ e. omega arith))

pub loop-key-preserved : goal.loop-key-preserved
loop-key-preserved c =
    let a = c.args in
    let x = met (goal.at.loop-key-preserved c).In-Some in
    visit-keep c.loop-key.invariant x
    (elim c.else-get-ne0.branch [
      | else-get-ne0-via-then-get-ne0+else-bit_at-eq0 w ↦ completed-keeps a.self (env_of a.force) _ x.lt (omega arith)
      | else-get-ne0-via-else-get-ne0 w ↦ completed-none a.self (env_of a.force) _ (omega arith)
    ])

pub returns : goal.returns
returns c = ends c.loop-key.invariant (c.in-None.ensures.steps).0

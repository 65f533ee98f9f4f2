-- `attrs::Attrs::changed` meets its contract: a walk over the keys of the set, that stores into an empty one.
use mathlib.Core.Path.{◌≡◌, sym, ap, ◌∙◌}
use native.Mathlib.Omega.{arith}
use borrow.Author.Rules.{rules}
use Rattle.sets.specs.Sets.{is, empty}
use Rattle.attrs.specs.Packed.{env_of}
use Rattle.attrs.proofs.Says.{whole-packed, onto-packed}
use Rattle.attrs.proofs.Slots.{Turn, turn-lowest}
use Rattle.attrs.proofs.Changes.{changed-lacks, changed-keeps, changed-puts}
use Rattle.attrs.proofs.Walk.{begins, ends, visit-put, visit-keep}
use Rattle.attrs.proofs.Attrs.changed.Goals as goal
use Rattle.attrs.proofs.Attrs.changed.Goals.{In-Some}

-- the key of a turn
met : (c : In-Some) → Turn c.args.self.mask c.loop-key.key-iterator.left c.in-Some.key c.next.new.self.left
met c = let s = c.in-Some.ensures.steps in turn-lowest _ _ c.loop-key.invariant.part s.0 s.1

pub loop-key-init : goal.loop-key-init
loop-key-init c =
    let a = c.args in
    let all : c.into_iter-key-iterator.result.left ≡ a.self.mask = cc in
    rw (all, c.empty-out.ensures) (begins _ _ _ (whole-packed empty) (search rules) (changed-lacks a.self (env_of a.force) (env_of a.from)))

pub put-out-requires-clause-key_bound : goal.put-out-requires-clause-key_bound
put-out-requires-clause-key_bound c = (met (goal.at.put-out-requires-clause-key_bound c).In-Some).lt

pub loop-key-preserved-then-get : goal.loop-key-preserved-then-get
loop-key-preserved-then-get c =
    let a = c.args in
    let x = met (goal.at.loop-key-preserved-then-get c).In-Some in
    let there = changed-puts a.self (env_of a.force) (env_of a.from) _ x.lt x.there (λ e. omega arith) in
    visit-put c.loop-key.invariant x c.put-out.ensures (there ∙ ap is (sym c.get-then-get.ensures.is))

pub loop-key-preserved : goal.loop-key-preserved
loop-key-preserved c =
    let a = c.args in
    visit-keep c.loop-key.invariant (met (goal.at.loop-key-preserved c).In-Some)
    (changed-keeps a.self (env_of a.force) (env_of a.from) _ (omega arith))

pub returns : goal.returns
returns c = ends c.loop-key.invariant (c.in-None.ensures.steps).0 ∙ onto-packed _ empty

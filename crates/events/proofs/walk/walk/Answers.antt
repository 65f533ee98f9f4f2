-- `events::walk::walk` meets its contract. Assumes nothing.
use native.Mathlib.Omega.{arith}
use Prim.Native.Nat.{ℕ, ◌+◌, ◌-◌}
use mathlib.Core.Path.{◌≡◌, refl, ap}
use Rattle.layout.proofs.Links.{walks-lt}
use Rattle.events.proofs.Going.{walking_start, walking-step, walking-end, told-one}
use Rattle.events.proofs.walk.walk.Goals as goal

pub loop-init : goal.loop-init
loop-init c =
    let all : c.args.h.items - 0 ≡ c.args.h.items = omega arith in
    rw (c.fresh-a.ensures, all) (walking_start _ _ _ _ _ c.requires.walkable)

pub bounds-items-at : goal.bounds-items-at
bounds-items-at c =
    let g = c.loop.invariant in
    omega (arith, walks-lt _ _ _ _ (omega arith) g.walk, g.most, c.requires.walkable.words)

pub tell-n-requires-in-loop-clause-told_bound : goal.tell-n-requires-in-loop-clause-told_bound
tell-n-requires-in-loop-clause-told_bound c =
    let g = c.loop.invariant in
    omega (arith, told-one _ _ _ _ _ _ c.tell-n.ensures, g.rare, g.most, g.few)

pub loop-preserved : goal.loop-preserved
loop-preserved c =
    let passed = rw (c.seen_by.ensures, c.unpack-it.ensures) at c.pass-p.ensures in
    let left : c.args.h.items - (c.loop.counter + 1) ≡ c.args.h.items - c.loop.counter - 1 = omega arith in
    rw (left, c.unpack-it.ensures)
    (walking-step _ _ _ _ _ _ _ _ _ _ _ c.loop.invariant (omega arith) _ _ _ _ _ passed c.tell-n.ensures c.tell-n-in-loop.ensures)

pub returns : goal.returns
returns c =
    let l = c.loop in
    walking-end _ _ _ _ _ _ _ _ _ _ _ l.invariant (omega arith) _ _ _ _ c.add_op.ensures c.tell-n-2.ensures refl (ap (λ (x : ℕ). l.a.units + x) c.inserted.ensures)

-- `events::fill::fill` meets its contract. Assumes nothing.
use native.Mathlib.Omega.{arith}
use Prim.Native.Nat.{◌+◌, ◌-◌, ◌≤◌}
use mathlib.Core.Path.{◌≡◌, sym, ◌∙◌}
use lib.ListN.{length}
use Rattle.layout.proofs.Links.{walks-lt}
use Rattle.encoding.proofs.Stores.{copied}
use Rattle.events.proofs.Texts.{filling-start, filling_step, text-fits, text-here, fill_end}
use Rattle.events.proofs.fill.fill.Goals as goal

pub loop-init : goal.loop-init
loop-init c =
    let all : c.args.h.items - 0 ≡ c.args.h.items = omega arith in
    rw all (filling-start _ _ _ _ _ c.requires.walkable c.requires.units_in_bounds c.requires.in_bounds)

pub bounds-items-at : goal.bounds-items-at
bounds-items-at c =
    let g = c.loop.invariant in
    omega (arith, walks-lt _ _ _ _ (omega arith) g.walk, g.most, c.requires.walkable.words)

pub new_text-text-requires : goal.new_text-text-requires
new_text-text-requires c = rw c.unpack-it.ensures (text-fits _ _ _ _ _ _ _ _ _ _ c.loop.invariant (omega arith))

pub slice_bounds-copy-end : goal.slice_bounds-copy-end
slice_bounds-copy-end c =
    let text = rw (c.seen_by.ensures, c.unpack-it.ensures) at c.new_text-text.ensures in
    text-here _ _ _ _ _ _ _ _ _ _ c.loop.invariant (omega arith) _ text

pub loop-preserved : goal.loop-preserved
loop-preserved c =
    let text = rw (c.seen_by.ensures, c.unpack-it.ensures) at c.new_text-text.ensures in
    let n = c.loop.n in
    let t = c.new_text-text.result.now in
    let room : n + length t ≤ length c.loop.out = text-here _ _ _ _ _ _ _ _ _ _ c.loop.invariant (omega arith) _ text in
    let left : c.args.h.items - (c.loop.counter + 1) ≡ c.args.h.items - c.loop.counter - 1 = omega arith in
    let stored = copied n (n + length t - n) c.loop.out _ t c.copy.ensures (omega arith) room in
    rw (left, c.unpack-it.ensures) (filling_step _ _ _ _ _ _ _ _ _ _ c.loop.invariant (omega arith) _ _ text stored)

pub returns : goal.returns
returns c =
    let l = c.loop in
    let a = c.args in
    sym (fill_end a.units.now a.back (a.h.items - l.counter) a.items.now l.at l.out l.n (omega arith)) ∙ l.invariant.whole

-- `cuts::falls_in_pair` meets its contract: what is left of the index falls into the rest of the list as the whole index into the whole. Assumes nothing.
use mathlib.Core.Path.{◌≡◌, refl, sym, ap, ◌∙◌}
use mathlib.Core.List.{◌∷◌, map}
use Rattle.layout.specs.Steps.{rest, as_listed}
use Rattle.layout.proofs.Steps.{steps-chain}
use Rattle.cuts.proofs.Seams.{seam}
use Rattle.cuts.proofs.Falls.{falls-in, falls-past, falls-end, lies-here, fits_on}
use Rattle.cuts.proofs.falls_in_pair.Goals as goal
use Rattle.cuts.proofs.falls_in_pair.Goals.{In-Some}

pub loop-it-init : goal.loop-it-init
loop-it-init c =
    let h = c.args.h in
    let from = c.new-it-items.ensures in
    rw (c.into_iter-it-iterator.ensures.into_iter_gives, from.items, from.at, from.todo, steps-chain h.items h.items c.args.items.now h.first c.requires.few c.requires.walk) (c.requires.fit, refl)

-- the item is the first of those that are left
first : (c : In-Some) → map as_listed (rest c.loop-it.it-iterator) ≡ as_listed (c.in-Some.field-0-0, c.in-Some.it) ∷ map as_listed (rest c.next.new.self)
first c = ap (map as_listed) c.in-Some.ensures.steps

pub cuts_piece-requires : goal.cuts_piece-requires
cuts_piece-requires c = lies-here c.args.used.now 0 (first (goal.at.cuts_piece-requires c).In-Some) c.loop-it.invariant.0

pub returns-then-rest-w : goal.returns-then-rest-w
returns-then-rest-w c =
    let w = rw c.shown_len-w.ensures at c.if-rest-w.true in
    c.cuts_piece.ensures ∙ sym (falls-in _ _ (first (goal.at.returns-then-rest-w c).In-Some) w) ∙ c.loop-it.invariant.1 ∙ sym (seam _ _ _ c.requires.fit c.requires.pairs)

pub loop-it-preserved : goal.loop-it-preserved
loop-it-preserved c =
    let here = first (goal.at.loop-it-preserved c).In-Some in
    let w = rw c.shown_len-w.ensures at c.if-rest-w.false in
    rw c.shown_len-w.ensures (
      fits_on c.args.used.now 0 here c.loop-it.invariant.0,
      sym (falls-past _ _ here w) ∙ c.loop-it.invariant.1,
    )

pub returns : goal.returns
returns c =
    sym (falls-end _ _ (ap (map as_listed) c.in-None.ensures.steps.0)) ∙ c.loop-it.invariant.1 ∙ sym (seam _ _ _ c.requires.fit c.requires.pairs)

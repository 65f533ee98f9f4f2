-- `changes::frame::in_working_copy` meets its contract. Assumes nothing.
use Rattle.std.proofs.Common.{rules}
use mathlib.Core.Path.{refl}
use Rattle.changes.specs.Frame.{Tried}
use Rattle.changes.proofs.Works.{load_is, tried_not, granted-is}
use Rattle.changes.proofs.frame.in_working_copy.Goals as goal

pub step-new-requires : goal.step-new-requires
step-new-requires g c = c.requires.callable _ (load_is _ _ _ c.requires.sheet refl _ c.copy.ensures) _ refl

pub returns-then-new-gt-ITEMS : goal.returns-then-new-gt-ITEMS
returns-then-new-gt-ITEMS g c p leads =
    let copy = load_is _ _ _ c.requires.sheet refl _ c.copy.ensures in
    let tried : Tried p c.step-new.result c.step-new.new.arg2 = leads _ copy _ _ (search rules) in
    tried_not tried c.if-new-gt-ITEMS.true _ _ _

pub returns : goal.returns
returns g c p leads =
    let copy = load_is _ _ _ c.requires.sheet refl _ c.copy.ensures in
    let tried : Tried p c.step-new.result c.step-new.new.arg2 = leads _ copy _ _ (search rules) in
    granted-is _ _ _ _ _ (tried.fits c.if-new-gt-ITEMS.false) _ c.if-new-gt-ITEMS.false c.requires.sheet.words _ c.grown.ensures _ c.copy-2.ensures

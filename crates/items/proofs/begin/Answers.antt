-- `items::begin` meets its contract. Assumes nothing.
use native.Mathlib.Omega.{arith}
use mathlib.Core.Path.{sym, ◌∙◌}
use Rattle.rules.specs.Calls.{begin_now, call}
use Rattle.layout.proofs.Soundness.{sound-parts}
use Rattle.items.proofs.Carries.{carry-broken, begin-is}
use Rattle.items.proofs.begin.Goals as goal

pub returns-then-not-sound : goal.returns-then-not-sound
returns-then-not-sound c = sym (carry-broken (call begin_now) _ _ _ (sym c.sound.ensures ∙ c.if-not-sound.true))

pub drop_flags-requires : goal.drop_flags-requires
drop_flags-requires c =
    let s = sound-parts _ _ _ (sym c.sound.ensures ∙ c.if-not-sound.false) in
    omega (arith, s.words, s.items)

pub returns : goal.returns
returns c = rw c.drop_flags.ensures (begin-is _ _ _ (sym c.sound.ensures ∙ c.if-not-sound.false))

-- `attrs::Attrs::update_current_attributes` meets its contract.
use mathlib.Core.Path.{◌≡◌, ◌∙◌}
use native.Mathlib.Omega.{arith}
use borrow.Author.Tests.{ne_eqb, lt-ltb, le-ltb}
use Rattle.attrs.proofs.Attrs.update_current_attributes.Goals as goal

pub returns-then-value-ne0 : goal.returns-then-value-ne0
returns-then-value-ne0 c = c.with.ensures ∙ simp (ne_eqb _ _ c.if-value-ne0.true)

pub returns-then-key-ge-KEYS : goal.returns-then-key-ge-KEYS
returns-then-key-ge-KEYS c = simp (le-ltb _ _ c.if-key-ge-KEYS.true)

pub returns : goal.returns
returns c =
    let null : c.args.value ≡ 0 = omega arith in
    rw null (simp (lt-ltb _ _ c.if-key-ge-KEYS.false, c.without.ensures))

-- `attrs_main::refusals` meets its contract: each check follows from the promises, by computing on the sets that they name.
use mathlib.Core.Path.{◌≡◌, ap, ap₂, ◌∙◌}
use Prim.Native.Nat.{ℕ}
use lib.Dec.{eqb, lit≤}
use Rattle.attrs.specs.declared.Attrs.{Attrs}
use Rattle.sets.specs.Sets.{empty, keys, bare, same_sets}
use Rattle.sets.specs.Bits.{bit}
use Rattle.attrs.specs.Packed.{Took, look, says, env_of, make, mask_of, values_of, packed, onto, with_at}
use Rattle.attrs.proofs.Slots.{env-past}
use Rattle.attrs_main.proofs.refusals.Goals as goal
use Rattle.attrs_main.proofs.refusals.Goals.{After-unwrap_or-a}

abbrev A : Attrs
A = (with_at (packed empty) 15 255).attrs

a-is : (c : After-unwrap_or-a) → c.unwrap_or-a.result ≡ A
a-is c = c.unwrap_or-a.ensures ∙ ap (λ (t : Took). t.attrs) (c.with-last.ensures ∙ ap (λ (e : Attrs). with_at e 15 255) c.empty-e.ensures)

pub expect-requires : goal.expect-requires
unfolding look bit make mask_of values_of packed onto says keys
expect-requires c = c.is_empty.ensures ∙ ap (λ (e : Attrs). bare keys (says e)) c.empty-e.ensures

pub expect-requires-3 : goal.expect-requires-3
unfolding look bit make mask_of values_of packed onto says env_of
expect-requires-3 c = ap (λ (x : ℕ). eqb x 255) (c.get.ensures.is ∙ ap (λ (a : Attrs). env_of a 15) (a-is (goal.at.expect-requires-3 c).After-unwrap_or-a))

pub expect-requires-4 : goal.expect-requires-4
expect-requires-4 c = ap (λ (x : ℕ). eqb x 0) (c.get-2.ensures.is ∙ env-past _ _ (lit≤ tt))

pub expect-requires-8 : goal.expect-requires-8
unfolding look bit make mask_of values_of packed onto says keys
expect-requires-8 c =
    let a = a-is (goal.at.expect-requires-8 c).After-unwrap_or-a in
    let kept = c.unwrap_or.ensures ∙ ap (λ (t : Took). t.attrs) c.update_current_attributes-far.ensures in
    c.same.ensures ∙ ap₂ (λ (x y : Attrs). same_sets keys (says x) (says y)) (kept ∙ a) a

-- `attrs_main::nulls` meets its contract: each check follows from the promises, by computing on the sets that they name.
use mathlib.Core.Path.{◌≡◌, ap, ap₂, ◌∙◌}
use mathlib.Core.Bool.{not}
use Prim.Native.Nat.{ℕ}
use lib.Dec.{eqb}
use lib.ListN.{length}
use Rattle.attrs.specs.declared.Attrs.{Attrs}
use Rattle.sets.specs.Sets.{absent, empty, at, keys, is_absent, slot_is, completed, same_sets, present}
use Rattle.sets.specs.Bits.{bit}
use Rattle.attrs.specs.Packed.{Took, look, says, env_of, make, mask_of, values_of, packed, onto, with_at, update_at}
use Rattle.attrs_main.proofs.nulls.Goals as goal
use Rattle.attrs_main.proofs.nulls.Goals.{After-unset_missing-u, After-unwrap_or-n}

-- 15 with 255, and 0 with null
abbrev N : Attrs
N = (with_at (with_at (packed empty) 15 255).attrs 0 0).attrs

n-is : (c : After-unwrap_or-n) → c.unwrap_or-n.result ≡ N
n-is c =
    let a = ap (λ (e : Attrs). (with_at e 15 255).attrs) c.empty-e.ensures in
    c.unwrap_or-n.ensures ∙ ap (λ (t : Took). t.attrs) c.with-2.ensures
    ∙ ap (λ (a : Attrs). (with_at a 0 0).attrs) (c.unwrap_or-a.ensures ∙ ap (λ (t : Took). t.attrs) c.with.ensures ∙ a)

u-is : (c : After-unset_missing-u) → c.unset_missing-u.result ≡ onto (packed empty) (completed (says (packed empty)) (env_of N))
u-is c =
    c.unset_missing-u.ensures
    ∙ ap₂ (λ (e n : Attrs). onto e (completed (says e) (env_of n))) c.empty-e.ensures (n-is (goal.at.After-unset_missing-u c).After-unwrap_or-n)

pub expect-requires : goal.expect-requires
unfolding look bit make mask_of values_of packed onto says
expect-requires c = c.has.ensures ∙ ap (λ (n : Attrs). not (is_absent (says n 0))) (n-is (goal.at.expect-requires c).After-unwrap_or-n)

pub expect-requires-2 : goal.expect-requires-2
unfolding look bit make mask_of values_of packed onto says env_of
expect-requires-2 c = ap (λ (x : ℕ). eqb x 0) (c.get.ensures.is ∙ ap (λ (n : Attrs). env_of n 0) (n-is (goal.at.expect-requires-2 c).After-unwrap_or-n))

pub expect-requires-3 : goal.expect-requires-3
unfolding look bit make mask_of values_of packed onto says keys
expect-requires-3 c = ap (λ (x : ℕ). eqb x 2) (c.count.ensures ∙ ap (λ (n : Attrs). length (present keys (says n))) (n-is (goal.at.expect-requires-3 c).After-unwrap_or-n))

pub expect-requires-4 : goal.expect-requires-4
unfolding look bit make mask_of values_of packed onto says keys
expect-requires-4 c =
    let m = c.unwrap_or-m.ensures ∙ ap (λ (t : Took). t.attrs) c.update_current_attributes.ensures in
    ap (λ (x : ℕ). eqb x 1)
    (c.count-2.ensures
    ∙ ap (λ (m : Attrs). length (present keys (says m))) (m ∙ ap (λ (n : Attrs). (update_at n 15 0).attrs) (n-is (goal.at.expect-requires-4 c).After-unwrap_or-n)))

pub expect-requires-5 : goal.expect-requires-5
unfolding look bit make mask_of values_of packed onto says env_of
expect-requires-5 c = c.has-2.ensures ∙ ap (λ (u : Attrs). not (is_absent (says u 15))) (u-is (goal.at.expect-requires-5 c).After-unset_missing-u)

pub expect-requires-6 : goal.expect-requires-6
unfolding look bit make mask_of values_of packed onto says env_of
expect-requires-6 c = ap not (c.has-3.ensures ∙ ap (λ (u : Attrs). not (is_absent (says u 0))) (u-is (goal.at.expect-requires-6 c).After-unset_missing-u))

pub expect-requires-7 : goal.expect-requires-7
unfolding look bit make mask_of values_of packed onto says keys
expect-requires-7 c =
    let n = n-is (goal.at.expect-requires-7 c).After-unwrap_or-n in
    let w = c.without-w.ensures ∙ ap (λ (n : Attrs). onto n (at 16 absent (says n))) n in
    c.same.ensures ∙ ap₂ (λ (x y : Attrs). same_sets keys (says x) (says y)) w n

pub expect-requires-8 : goal.expect-requires-8
unfolding look bit make mask_of values_of packed onto says
expect-requires-8 c = c.agrees.ensures ∙ ap (λ (n : Attrs). slot_is (says n 0) 0) (n-is (goal.at.expect-requires-8 c).After-unwrap_or-n)

pub expect-requires-9 : goal.expect-requires-9
unfolding look bit make mask_of values_of packed onto says
expect-requires-9 c = ap not (c.agrees-2.ensures ∙ ap (λ (n : Attrs). slot_is (says n 1) 0) (n-is (goal.at.expect-requires-9 c).After-unwrap_or-n))

-- `attrs_main::all_keys` meets its contract: each check follows from the promises, by computing on the sets that they name.
use mathlib.Core.Path.{◌≡◌, ap, ◌∙◌}
use Prim.Native.Nat.{ℕ}
use lib.Dec.{eqb}
use lib.ListN.{length, replicate}
use Rattle.attrs.specs.declared.Attrs.{Attrs}
use Rattle.sets.specs.Sets.{empty, keys, bare, opened, former, same_sets, present}
use Rattle.sets.specs.Bits.{bit}
use Rattle.attrs.specs.Packed.{look, says, env_of, make, mask_of, values_of, packed}
use Rattle.attrs_main.specs.Sum.{sum_of}
use Rattle.attrs_main.proofs.all_keys.Goals as goal
use Rattle.attrs_main.proofs.all_keys.Goals.{After-differing-d, After-remembered-r}

abbrev F : Attrs
F = record { mask = 65535; values = replicate 16 7 }

d-is : (c : After-differing-d) → c.differing-d.result ≡ packed (opened (says F) (env_of (packed empty)))
d-is c = c.differing-d.ensures ∙ ap (λ (e : Attrs). packed (opened (says F) (env_of e))) c.empty-e.ensures

r-is : (c : After-remembered-r) → c.remembered-r.result ≡ packed (former (says F) (env_of (packed empty)))
r-is c = c.remembered-r.ensures ∙ ap (λ (e : Attrs). packed (former (says F) (env_of e))) c.empty-e.ensures

pub expect-requires : goal.expect-requires
unfolding look bit make mask_of values_of packed says keys
expect-requires c = ap (λ (x : ℕ). eqb x 16) c.count.ensures

pub expect-requires-2 : goal.expect-requires-2
unfolding look bit make mask_of values_of packed says env_of keys sum_of
expect-requires-2 c = ap (λ (x : ℕ). eqb x 112) c.total.ensures

pub expect-requires-3 : goal.expect-requires-3
unfolding look bit make mask_of values_of packed says env_of keys
expect-requires-3 c = c.same.ensures ∙ ap (λ (d : Attrs). same_sets keys (says d) (says F)) (d-is (goal.at.expect-requires-3 c).After-differing-d)

pub expect-requires-4 : goal.expect-requires-4
unfolding look bit make mask_of values_of packed says env_of keys
expect-requires-4 c = ap (λ (x : ℕ). eqb x 16) (c.count-2.ensures ∙ ap (λ (r : Attrs). length (present keys (says r))) (r-is (goal.at.expect-requires-4 c).After-remembered-r))

pub expect-requires-5 : goal.expect-requires-5
unfolding look bit make mask_of values_of packed says env_of keys sum_of
expect-requires-5 c =
    ap (λ (x : ℕ). eqb x 0)
    (c.total-2.ensures ∙ ap (λ (r : Attrs). sum_of (env_of r) (present keys (says r))) (r-is (goal.at.expect-requires-5 c).After-remembered-r))

pub expect-requires-6 : goal.expect-requires-6
unfolding look bit make mask_of values_of packed says env_of keys
expect-requires-6 c = c.is_empty.ensures ∙ ap (λ (d : Attrs). bare keys (says d)) c.differing.ensures

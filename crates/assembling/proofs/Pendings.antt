-- What the code reads of a set is what the rules' change of a pending attribute asks for.
use Prim.Native.Nat.{ℕ, ◌≤◌}
use native.Mathlib.Omega.{arith}
use mathlib.Core.Path.{◌≡◌, refl, ap, ◌∙◌}
use mathlib.Core.Bool.{true, not}
use Rattle.std.specs.Prelude.{Option, None, Some}
use Rattle.attrs.specs.declared.Attrs.{Attrs}
use Rattle.sets.specs.Sets.{Slot, absent, is, is_absent, lay}
use Rattle.attrs.specs.Packed.{says, env_of}
use Rattle.attrs.proofs.Says.{env_of-says}
use Rattle.rules.specs.Event.{change}
use Rattle.assembling.specs.declared.runs.Kind.{Kind}
use Rattle.assembling.specs.declared.runs.Kind.TheVariants.{Inserting, Deleting, Retaining}
use Rattle.assembling.specs.declared.runs.Run.{Run}
use Rattle.assembling.specs.Steps.{counted, inserted_in, inserted_by, pending_of}

pub kept-has : (a : Attrs) (k o c v : ℕ) → not (is_absent (says a k)) ≡ true
    → pending_of (change true true 0 0 (is (env_of a k)) v) ≡ pending_of (change true true o c (says a k) v)
kept-has a k o c v e = ap (λ (x : ℕ). pending_of (change true true 0 0 (is x) v)) (env_of-says a k) ∙ go (says a k) e
  where
    go : (s : Slot) → not (is_absent s) ≡ true → pending_of (change true true 0 0 (is (lay s 0)) v) ≡ pending_of (change true true o c s v)
    go absent e = cc
    go (is w) e = refl

pub inserted-le : (r : Option Run) → inserted_by r ≤ counted r
inserted-le None = omega arith
inserted-le (Some r) = go r.kind
  where
    go : (k : Kind) → inserted_in k r.width ≤ r.width
    go Inserting = omega arith
    go Deleting = omega arith
    go Retaining = omega arith

-- `events::event::event` meets its contract. Assumes nothing.
use native.Mathlib.Omega.{arith}
use mathlib.Core.Path.{◌≡◌, refl, sym, ap₂, ◌∙◌}
use Prim.Native.Nat.{ℕ}
use lib.ListN.{length}
use Rattle.rules.specs.Reading.{before, live}
use Rattle.events.specs.Given.{given, refused}
use Rattle.layout.proofs.Soundness.{sound-parts}
use Rattle.events.proofs.Events.{given-broken, same, ops-is, units-is, no_words, no-units, all-fits, wrote, text-room, filled}
use Rattle.events.proofs.event.event.Goals as goal
use Rattle.events.proofs.event.event.Goals.{then-m-ops-via-then-m-ops, then-m-ops-via-else-m-ops+then-m-out}

pub returns-then-not-sound : goal.returns-then-not-sound
returns-then-not-sound c =
    let a = c.args in
    rw (given-broken a.h a.items.now a.units.now _ _ (sym c.sound.ensures ∙ c.if-not-sound.true)) (record { answer = refl; words = refl; texts = refl })

pub returns-then-m-ops : goal.returns-then-m-ops
returns-then-m-ops c =
    let a = c.args in
    let ok = sym c.sound.ensures ∙ c.if-not-sound.false in
    let k = c.walk-m.ensures in
    let short : given before live a.h a.items.now a.units.now (length a.ops.now) (length a.out.now) ≡ refused 8 =
    elim c.then-m-ops.branch [
      | then-m-ops-via-then-m-ops w ↦ no_words a.h a.items.now a.units.now ok _ a.out.now _ _ k w.if-m-ops.true
      | then-m-ops-via-else-m-ops+then-m-out w ↦ no-units a.h a.items.now a.units.now ok _ a.out.now _ _ k w.if-m-ops.false w.if-m-out.true
    ]
    in
    rw short (record { answer = refl; words = same a.h a.items.now a.units.now ok _ a.out.now _ _ k; texts = refl })

pub fill-requires-clause-units_in_bounds : goal.fill-requires-clause-units_in_bounds
fill-requires-clause-units_in_bounds c =
    let a = c.args in
    let s = sound-parts a.h a.items.now a.units.now (sym c.sound.ensures ∙ c.if-not-sound.false) in
    omega (arith, s.room, s.used)

pub fill-requires-clause-in_bounds : goal.fill-requires-clause-in_bounds
fill-requires-clause-in_bounds c =
    let a = c.args in
    text-room a.h a.items.now a.units.now (sym c.sound.ensures ∙ c.if-not-sound.false) _ a.out.now _ _ c.walk-m.ensures c.if-m-out.false

pub returns : goal.returns
returns c =
    let a = c.args in
    let ok = sym c.sound.ensures ∙ c.if-not-sound.false in
    let k = c.walk-m.ensures in
    let l = c.if-m-ops.false in
    let n = c.if-m-out.false in
    rw (all-fits a.h a.items.now a.units.now ok _ a.out.now _ _ k l n) (record {
      answer = ap₂ (λ (x y : ℕ). record { refusal = 0; ops = x; units = y }) (ops-is a.h a.items.now a.units.now ok _ a.out.now _ _ k) (units-is a.h a.items.now a.units.now ok _ a.out.now _ _ k);
      words = wrote a.h a.items.now a.units.now ok _ a.out.now _ _ k l _ _ c.walk.ensures;
      texts = filled a.h a.items.now a.units.now ok _ a.out.now _ _ k n _ c.fill.ensures;
    })

-- The start of a sound sheet, and how many runs are planned. Assumes nothing.
use Prim.Native.Nat.{ℕ, zero, suc, ◌^◌, ◌<◌, ◌≤◌}
use native.Mathlib.Omega.{arith}
use mathlib.Core.Path.{◌≡◌, refl, ap}
use mathlib.Core.Bool.{Bool, true, false, cond}
use mathlib.Core.List.{List, [], ◌∷◌}
use lib.Dec.{leb}
use lib.ListN.{length, drop}
use borrow.Author.Tests.{lt-ltb, le-leb, lt-leb, leb-true}
use Rattle.sets.specs.Sets.{Env}
use Rattle.rules.specs.Runs.{runs_from}
use Rattle.layout.specs.declared.head.Head.{Head}
use Rattle.layout.specs.Chain.{walks, next_at}
use Rattle.layout.specs.Memory.{list_of, model_of, sound_of}
use Rattle.layout.proofs.Links.{walks_parts}
use Rattle.layout.proofs.Soundness.{sound-parts}
use Rattle.layout.proofs.Models.{model-sound}
use Rattle.layout.proofs.Lengths.{visible-room}
use Rattle.cursors.specs.declared.run.Run.{Run}
use Rattle.cursors.specs.Records.{records_of, runs_by, records}
use Rattle.cursors.specs.Cursors.{records_at, Stands, start_of}
use Rattle.std.specs.Prelude.{Option, Ok, Err, slice_get}
use Rattle.refusal.specs.declared.Refusal.{Refusal}
use Rattle.refusal.specs.declared.Refusal.TheVariants.{Out, Broken}
use Rattle.runs.specs.Answers.{Count, told, said, records_in, answer, counted, planned, first, run_at}
use Rattle.cursors.proofs.Forces.{env-none, plain-none}

-- ---- the start

-- a walk below a bound is one below a greater bound
walks_more : (b c : ℕ) → b ≤ c → (f : ℕ) (m : List ℕ) (s : ℕ) → walks b f m s ≡ true → walks c f m s ≡ true
unfolding walks
walks_more b c l zero m s p = p
walks_more b c l (suc f) m s p =
    let q = walks_parts b f m s p in
    rw (lt-ltb s c (omega (arith, q.0))) (walks_more b c l f m (next_at m s) q.1)

module _ (h : Head) (m u : List ℕ) (e : sound_of h m u ≡ true) where
  pub start-stands : Stands m (start_of h)
  start-stands =
      let s = sound-parts h m u e in
      let v = visible-room h m u s in
      record {
        used = length (model_of h m u).units;
        walk = walks_more h.items (length m) (omega (arith, s.items, s.words)) h.items m h.first s.walk;
        fit = (model-sound h m u s).list.fit;
        room = omega arith;
        plain = plain-none;
      }

  pub start-few : (start_of h).todo < 2 ^ 64
  start-few = omega (arith, (sound-parts h m u e).items)

pub start-records : (j : Bool) (h : Head) (m : List ℕ) → records_at j m (start_of h) ≡ records j (list_of h m)
unfolding records_at
start-records j h m = ap (λ (e : Env). records_of 0 (runs_by j (runs_from [] e (list_of h m)))) env-none

-- ---- the answers

-- the run of a number is the first of those from there on
number-first : (n : ℕ) (rs : List Run) → said (Ok (slice_get rs n)) ≡ first (drop n rs)
number-first zero [] = refl
number-first (suc n) [] = refl
number-first zero (r ∷ rs) = refl
number-first (suc n) (r ∷ rs) = number-first n rs

module _ (h : Head) (m u : List ℕ) (j : Bool) where
  module _ (sound : sound_of h m u ≡ true) where
    pub count-is : (n : ℕ) → n ≡ length (records_in h m j) → told (Ok n) ≡ counted h m u j
    unfolding counted
    count-is n e = rw (sound, e)

    pub run_is : (n : ℕ) (o : Option Run) → o ≡ slice_get (records_in h m j) n → said (Ok o) ≡ run_at h m u j n
    unfolding run_at
    run_is n o e = rw (sound, e) (number-first n (records_in h m j))

  module _ (broken : sound_of h m u ≡ false) where
    pub count-broken : told (Err Broken) ≡ counted h m u j
    unfolding counted
    count-broken = rw broken

    pub run-broken : (n : ℕ) → said (Err Broken) ≡ run_at h m u j n
    unfolding run_at
    run-broken n = rw broken

  module _ (room : ℕ) where
    pub plan-err : (e : Refusal) → told (Err e) ≡ counted h m u j → told (Err e) ≡ planned h m u j room
    unfolding planned
    plan-err e is = rw (← is, le-leb 0 room (omega arith))

    module _ (n : ℕ) (is : told (Ok n) ≡ counted h m u j) where
      pub plan-over : room < n → told (Err Out) ≡ planned h m u j room
      unfolding planned
      plan-over l = rw (← is, lt-leb n room l)

      pub plan-fits : n ≤ room → told (Ok n) ≡ planned h m u j room
      unfolding planned
      plan-fits l = rw (← is, le-leb n room l)

    -- what is planned and not refused is all runs of a sound sheet, and fits
    pub plan-grants : (n : ℕ) → told (Ok n) ≡ planned h m u j room → (sound_of h m u ≡ true) × (n ≡ length (records_in h m j)) × (n ≤ room)
    unfolding planned counted
    plan-grants n e = go (sound_of h m u) (leb (length (records_in h m j)) room) refl e
      where
        refused : (x : ℕ) → 0 < x → told (Ok n) ≡ answer x 0 → ⊥
        refused x l q = omega (arith, l, ap (λ (c : Count). c.refusal) q)

        go : (s f : Bool) → leb (length (records_in h m j)) room ≡ f
            → (let c : Count = cond s (answer 0 (length (records_in h m j))) (answer 9 0) in told (Ok n) ≡ cond (leb c.count room) c (answer 8 0))
            → (s ≡ true) × (n ≡ length (records_in h m j)) × (n ≤ room)
        go true true l q = let c = ap (λ (c : Count). c.count) (rw l at q) in (refl, c, omega (arith, c, leb-true (length (records_in h m j)) room l))
        go true false l q = absurd (refused 8 (omega arith) (rw l at q))
        go false f l q = absurd (unsound (leb 0 room) q)
          where
            unsound : (b : Bool) → told (Ok n) ≡ cond b (answer 9 0) (answer 8 0) → ⊥
            unsound true q = refused 9 (omega arith) q
            unsound false q = refused 8 (omega arith) q

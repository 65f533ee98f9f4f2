-- What opening leaves to do. Assumes nothing.
use Prim.Native.Nat.{ℕ, ◌+◌, ◌≤◌}
use mathlib.Core.Path.{◌≡◌, ap, ◌∙◌}
use mathlib.Core.List.{List}
use Rattle.attrs.specs.declared.Attrs.{Attrs}
use Rattle.sets.specs.Sets.{Set, none, opened, former, completed}
use Rattle.attrs.specs.Packed.{says, env_of, packed, onto}
use Rattle.attrs.proofs.Force.{says-opened, says-former, says-unset}
use Rattle.rules.specs.Places.{At, Move, after, and_then, put_marks}
use Rattle.rules.specs.Edits.{opening, settled}
use Rattle.laws.proofs.Room.{put_marks-next}
use Rattle.layout.specs.declared.head.Head.{Head}
use Rattle.arena.specs.declared.Place.{Place}
use Rattle.arena.specs.Places.{left_of, right_of, placed, Standing, Carried, Going, in_turn}
use Rattle.arena.proofs.Carried.{carried-then, carried-as, going_done, then_assoc}
use Rattle.arena.proofs.Forces.{force_env}
use Rattle.marks.specs.Moves.{settling, putting, opener}
use Rattle.marks.specs.Opens.{Opens}
use Rattle.marks.proofs.Rooms.{carried-room}

-- ---- opening
module _ {h : Head} {m : List ℕ} {p : Place} (s : Standing h m p) (a : Attrs) where
  pub opens : {h₁ : Head} {m₁ : List ℕ} {p₁ : Place} (d r : Attrs) → d ≡ packed (opened (says a) (env_of p.force)) → r ≡ packed (former (says a) (env_of p.force))
      → Carried (putting (says d)) h m p h₁ m₁ p₁ → Opens (says a) h m p h₁ m₁ p₁ r
  opens d r ed er c =
      let E = after none (left_of h m p) in
      let e = force_env s in
      let sd : says d ≡ opened (says a) E = ap says ed ∙ says-opened a (env_of p.force) ∙ ap (opened (says a)) e in
      record {
        put = carried-as (opener (says a)) c (ap (λ (x : Set). put_marks x (right_of h m p) h.items) sd);
        remembers = ap says er ∙ says-former a (env_of p.force) ∙ ap (former (says a)) e;
      }

  -- the set completed by the code is the rule's
  pub completes : (b : Attrs) → b ≡ onto a (completed (says a) (env_of p.force)) → says b ≡ completed (says a) (after none (left_of h m p))
  completes b eb = ap says eb ∙ says-unset a p.force ∙ ap (completed (says a)) (force_env s)

module _ {a : Set} {h : Head} {m : List ℕ} {p : Place} {h₁ : Head} {m₁ : List ℕ} {p₁ : Place} {r : Attrs} (o : Opens a h m p h₁ m₁ p₁ r) where
  -- what is left to do is to be done with what is remembered
  pub opens-going : (f : Set → Move) → Going (opening a f) h m p (f (says r)) h₁ m₁ p₁
  opens-going f =
      let E = after none (left_of h m p) in
      record {
        stands = o.put.stands;
        rest = ap (λ (x : At). and_then none x (f (says r))) o.put.moved
            ∙ then_assoc none (placed h m p) (opener a) (f (says r))
            ∙ ap (λ (x : Set). and_then none (placed h m p) (in_turn (opener a) (f x))) o.remembers;
        units = o.put.units;
      }

  pub opens-room : h₁.items ≤ h.items + 16
  opens-room = carried-room o.put 16 (λ e l n. put_marks-next (opened a e) l n)

  -- Settle, Open, and a move with what is remembered
  pub settled-carried : (f : Set → Move) {p₀ : Place} → Carried (settling a) h m p₀ h m p → {h₂ : Head} {m₂ : List ℕ} {p₂ : Place} → Carried (f (says r)) h₁ m₁ p₁ h₂ m₂ p₂ → Carried (settled a f) h m p₀ h₂ m₂ p₂
  settled-carried f c d = carried-then c (going_done (opens-going f) d)

-- The bridge: what lies in memory after a call is what the rules make of what lay there, refused or not; so after any steps. Assumes nothing.
use Prim.Native.Nat.{ℕ}
use native.Mathlib.Omega.{arith}
use mathlib.Core.Path.{◌≡◌, refl, sym, ap, ap₂, ◌∙◌}
use mathlib.Core.Bool.{Bool, true, false, cond}
use mathlib.Core.List.{List, [], ◌∷◌, map}
use Rattle.std.proofs.Common.{rules, inl, inr}
use Rattle.std.proofs.lemmas.Bool.{cases_eq}
use Rattle.std.specs.Prelude.{Result}
use Rattle.std.specs.Result.{result_unwrap_or}
use Rattle.refusal.specs.declared.Refusal.{Refusal}
use Rattle.rules.specs.Reading.{Op}
use Rattle.rules.specs.Calls.{Body, Call, apply_delta, begin_now, call}
use Rattle.rules.specs.Rulings.{FineCall}
use Rattle.rules.specs.PieceParts.{after as ruled_after, refusals}
use Rattle.laws.proofs.Calls.{call-refused}
use Rattle.laws.proofs.Transaction.{FineCalls}
use Rattle.layout.specs.declared.head.Head.{Head}
use Rattle.layout.specs.Memory.{sound_of, Carried, leaving, kept_all, carry}
use Rattle.layout.proofs.Soundness.{sound-parts}
use Rattle.layout.proofs.Models.{model-sound, sound-units}
use Rattle.items.proofs.Carries.{carry-broken, carry-refused, carry-done}
use Rattle.sheet.proofs.Theorems.{refusal_is, leaves-sound, leaves-model}
use Rattle.demands.specs.Steps.{State, sound, model, Step, does, turned, answered, left, after, numbers, begun, calls_of, delta_step}

-- ---- one step
-- One call, refused or not.
pub call-model : (c : Call) → FineCall c → (s : State) → sound s ≡ true → model (left (answered (does c) s)) ≡ (call c (model s)).sheet
call-model c fine s ok =
    elim (cases_eq (call c (model s)).refusal 0) [
      | inl none ↦ leaves-model c s.head s.words s.units ok fine (refusal_is c s.head s.words s.units ok ∙ none)
      | inr some ↦ ap (λ (x : Carried). model (left x)) (carry-refused (call c) s.head s.words s.units ok some)
          ∙ sym (call-refused c (model s) (model-sound s.head s.words s.units (sound-parts s.head s.words s.units ok)).within (call c (model s)).refusal refl (omega arith))
    ]

-- A step that is turned away keeps all.
pub turned-keeps : (n : ℕ) (s : State) → left (answered (turned n) s) ≡ s
turned-keeps n s = grind rules

-- What `begin` promises of its answer and of the words, with the units that it does not touch, is `begun`.
pub begin-is : (s : State) (r : Result Head Refusal) (m u : List ℕ) → leaving s.head r m u ≡ carry begin_now s.head s.words s.units
    → record { head = result_unwrap_or r s.head; words = m; units = s.units } ≡ begun s
begin-is s r m u e = ap₂ (λ (x : Carried) (y : List ℕ). record { head = x.head; words = x.words; units = y }) e (go (sound s) refl)
  where
    go : (b : Bool) → sound s ≡ b → s.units ≡ (begun s).units
    go true e =
        sym (sound-units s.head s.words s.units (sound-parts s.head s.words s.units e))
        ∙ sym (ap (λ (x : Carried). x.units) (carry-done (call begin_now) s.head s.words s.units e refl))
    go false e = sym (ap (λ (x : Carried). x.units) (carry-broken (call begin_now) s.head s.words s.units e))

-- An unsound sheet is refused with 9, and all is kept.
pub broken-step : (t : Step) (s : State) → sound s ≡ false → answered t s ≡ kept_all 9 s.head s.words s.units
broken-step t s e = grind (rules, carry-broken)

-- A delta in memory is a step.
pub delta-step : (many short : Bool) (ops : List (Op Body)) (h : Head) (m u : List ℕ)
    → cond (sound_of h m u) (cond many (kept_all 7 h m u) (cond short (kept_all 8 h m u) (carry (apply_delta ops) h m u))) (kept_all 9 h m u)
    ≡ answered (delta_step many short ops) (record { head = h; words = m; units = u })
delta-step many short ops h m u = go (sound_of h m u) refl many short
  where
    go : (b : Bool) → sound_of h m u ≡ b → (many short : Bool)
        → cond b (cond many (kept_all 7 h m u) (cond short (kept_all 8 h m u) (carry (apply_delta ops) h m u))) (kept_all 9 h m u)
        ≡ answered (delta_step many short ops) (record { head = h; words = m; units = u })
    go true e true short = rw e
    go true e false true = rw e
    go true e false false = refl
    go false e many short = sym (broken-step (delta_step many short ops) (record { head = h; words = m; units = u }) e)

-- ---- any steps
-- The sheet stays sound ..
pub after-sound : (ts : List Step) → FineCalls (calls_of ts) → (s : State) → sound s ≡ true → sound (after ts s) ≡ true
after-sound [] d s ok = ok
after-sound (does c ∷ ts) d s ok = after-sound ts d.1 (left (answered (does c) s)) (leaves-sound c s.head s.words s.units ok d.0)
after-sound (turned n ∷ ts) d s ok = after-sound ts d (left (answered (turned n) s)) (ap sound (turned-keeps n s) ∙ ok)

-- .. and is what the rules make of it.
pub after-model : (ts : List Step) → FineCalls (calls_of ts) → (s : State) → sound s ≡ true → model (after ts s) ≡ ruled_after (calls_of ts) (model s)
after-model [] d s ok = refl
after-model (does c ∷ ts) d s ok =
    after-model ts d.1 (left (answered (does c) s)) (leaves-sound c s.head s.words s.units ok d.0) ∙ ap (ruled_after (calls_of ts)) (call-model c d.0 s ok)
after-model (turned n ∷ ts) d s ok = ap (λ (x : State). model (after ts x)) (turned-keeps n s) ∙ after-model ts d s ok

-- So are the numbers that calls answer.
pub numbers-ruled : (cs : List Call) → FineCalls cs → (s : State) → sound s ≡ true → numbers (map does cs) s ≡ refusals cs (model s)
numbers-ruled [] d s ok = refl
numbers-ruled (c ∷ cs) d s ok = grind (rules, refusal_is, numbers-ruled cs, leaves-sound, call-model)

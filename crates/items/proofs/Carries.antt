-- The ways of a call, and that it leaves a sound sheet. Assumes nothing.
use Prim.Native.Nat.{ℕ}
use mathlib.Core.Path.{◌≡◌, refl, sym, ap, ◌∙◌}
use mathlib.Core.Bool.{Bool, true, false, true≢false}
use mathlib.Core.List.{List, [], ◌∷◌}
use lib.ListN.{length, take}
use lib.Dec.{eqb}
use borrow.Author.Tests.{eq-eqb, ne_eqb, eqb-true}
use Rattle.rules.specs.Sheet.{Item, begin}
use Rattle.rules.specs.Calls.{Sheet, Outcome, begin_now, call}
use Rattle.rules.specs.Rulings.{SoundSheet}
use Rattle.layout.specs.declared.head.Head.{Head}
use Rattle.layout.specs.Chain.{head_or}
use Rattle.layout.specs.Heads.{grown_head}
use Rattle.layout.specs.Memory.{list_of, model_of, sound_of, Sound, kept_all, stored_all, carry_by, carry}
use Rattle.items.specs.Calls.{rest_word, sweep_to}
use Rattle.layout.proofs.Soundness.{sound-parts, sound-whole}
use Rattle.layout.proofs.Models.{model-sound, sound-head, sound-units, stored-sound, stored-model}
use Rattle.items.proofs.Sweeps.{begin-stored}

-- ---- the three ways
module _ (f : Sheet → Outcome) (h : Head) (m u : List ℕ) where
  pub carry-broken : sound_of h m u ≡ false → carry_by f h m u ≡ kept_all 9 h m u
  unfolding carry_by
  carry-broken e = rw e

  pub carry-refused : sound_of h m u ≡ true → ((f (model_of h m u)).refusal ≡ 0 → ⊥) → carry_by f h m u ≡ kept_all (f (model_of h m u)).refusal h m u
  unfolding carry_by
  carry-refused e r = rw (e, ne_eqb (f (model_of h m u)).refusal 0 r)

  pub carry-done : sound_of h m u ≡ true → (f (model_of h m u)).refusal ≡ 0 → carry_by f h m u ≡ stored_all (f (model_of h m u)).sheet h m u
  unfolding carry_by
  carry-done e r = rw (e, eq-eqb (f (model_of h m u)).refusal 0 r)

-- ---- a sound sheet stays sound
-- of a rule whose accepted outcomes are such
module _ (f : Sheet → Outcome) (keeps : (s : Sheet) → SoundSheet s → (f s).refusal ≡ 0 → SoundSheet (f s).sheet) (h : Head) (m u : List ℕ) (ok : sound_of h m u ≡ true) where
  pub carry-sound : sound_of (carry_by f h m u).head (carry_by f h m u).words (carry_by f h m u).units ≡ true
  carry-sound = go (eqb (f (model_of h m u)).refusal 0) refl
    where
      p : Sound h m u
      p = sound-parts h m u ok

      go : (t : Bool) → eqb (f (model_of h m u)).refusal 0 ≡ t → sound_of (carry_by f h m u).head (carry_by f h m u).words (carry_by f h m u).units ≡ true
      go true e =
          let r = eqb-true (f (model_of h m u)).refusal 0 e in
          let k = keeps (model_of h m u) (model-sound h m u p) r in
          rw (carry-done f h m u ok r) (sound-whole _ _ _ (stored-sound (f (model_of h m u)).sheet h m u k p.words p.room))
      go false e =
          rw (carry-refused f h m u ok (λ (r : (f (model_of h m u)).refusal ≡ 0). true≢false (sym (eq-eqb (f (model_of h m u)).refusal 0 r) ∙ e))) ok

  -- what lies in the buffers after an accepted call is the outcome
  pub carry-model : (f (model_of h m u)).refusal ≡ 0 → model_of (carry_by f h m u).head (carry_by f h m u).words (carry_by f h m u).units ≡ (f (model_of h m u)).sheet
  carry-model r =
      let p = sound-parts h m u ok in
      let k = keeps (model_of h m u) (model-sound h m u p) r in
      rw (carry-done f h m u ok r) (stored-model (f (model_of h m u)).sheet h m u k p.words p.room)

-- ---- begin
head-rested : (l : List Item) → head_or (begin l) ≡ head_or l
unfolding head_or
head-rested [] = refl
head-rested (i ∷ l) = refl

-- what the code of begin answers and leaves
pub begin-is : (h : Head) (m u : List ℕ) → sound_of h m u ≡ true → record { refusal = 0; head = h; words = sweep_to rest_word h.items m; units = u } ≡ carry begin_now h m u
begin-is h m u ok =
    let p = sound-parts h m u ok in
    let e = ap (λ (x : ℕ). grown_head h x h.items (length (take h.units u))) (head-rested (list_of h m)) ∙ sound-head h m u p in
    rw (carry-done (call begin_now) h m u ok refl, e, sound-units h m u p) (ap (λ (x : List ℕ). record { refusal = 0; head = h; words = x; units = u }) (begin-stored h m u p))

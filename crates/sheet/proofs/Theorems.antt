-- What every call leaves in the buffers, from the rules' theorems: each call of the crate leaves just `carry` of its call. Assumes nothing.
use Prim.Native.Nat.{ℕ, zero, suc, ◌<◌}
use native.Mathlib.Omega.{arith}
use mathlib.Core.Path.{◌≡◌, refl, sym, ap, subst⁻¹, ◌∙◌}
use mathlib.Core.Bool.{Bool, true, false, cond}
use mathlib.Core.List.{List}
use mathlib.Core.Logic.{◌↔◌}
use lib.Dec.{eqb, ltb}
use lib.ListN.{get_or, take}
use borrow.Author.Tests.{eqb-true, eqb-false}
use Rattle.attrs.specs.declared.Attrs.{Attrs}
use Rattle.sets.specs.Sets.{absent, is, Set, keys}
use Rattle.sets.specs.Bits.{bit}
use Rattle.attrs.specs.Packed.{held, look, seen, says}
use Rattle.rules.specs.Reading.{live, before, Cell, cells, lay_cell, visible}
use Rattle.rules.specs.Calls.{Sheet, Call, format_range, call, AllPaired}
use Rattle.rules.specs.Rulings.{SoundSheet, Within, unwhole, in_pair, too_far, crowded, Exactly, Byte, FineSet, FineCall, Edit}
use Rattle.rules.specs.Shows.{shows, Formatted}
use Rattle.laws.proofs.Lists.{In}
use Rattle.laws.proofs.Rulings.{call-exactly}
use Rattle.laws.proofs.Calls.{call-sound, call-before}
use Rattle.laws.proofs.Shows.{call-cells}
use Rattle.laws.proofs.Points.{format_points}
use Rattle.layout.specs.declared.head.Head.{Head}
use Rattle.layout.specs.Memory.{list_of, model_of, sound_of, Carried, kept_all, carry}
use Rattle.layout.proofs.Soundness.{sound-parts}
use Rattle.layout.proofs.Models.{model-sound}
use Rattle.items.proofs.Carries.{carry-broken, carry-refused, carry-done, carry-sound, carry-model}

module _ (c : Call) (h : Head) (m u : List ℕ) where
  abbrev s : Sheet
  s = model_of h m u

  abbrev new : Carried
  new = carry c h m u

  -- ---- refusals
  keeps : FineCall c → (x : Sheet) → SoundSheet x → (call c x).refusal ≡ 0 → SoundSheet (call c x).sheet
  keeps f x k r = call-sound c f x k

  module _ (ok : sound_of h m u ≡ true) where
    within : Within s
    within = (model-sound h m u (sound-parts h m u ok)).within

    -- of a sound sheet the number is the rules'
    pub refusal_is : new.refusal ≡ (call c s).refusal
    refusal_is = go (eqb (call c s).refusal 0) refl
      where
        go : (b : Bool) → eqb (call c s).refusal 0 ≡ b → new.refusal ≡ (call c s).refusal
        go true e =
            let z = eqb-true (call c s).refusal 0 e in
            ap (λ (x : Carried). x.refusal) (carry-done (call c) h m u ok z) ∙ sym z
        go false e = ap (λ (x : Carried). x.refusal) (carry-refused (call c) h m u ok (eqb-false (call c s).refusal 0 e))

    -- 3, 2, 1, 4 and acceptance, each exactly when
    pub refused-exactly : Exactly (unwhole c s) (in_pair c s) (too_far c s) (crowded c s) new.refusal
    refused-exactly = subst⁻¹ (Exactly (unwhole c s) (in_pair c s) (too_far c s) (crowded c s)) refusal_is (call-exactly c s within)

    -- ---- what an accepted call leaves
    module _ (fine : FineCall c) where
      -- Every call, refused or not, leaves a sound sheet ..
      pub leaves-sound : sound_of new.head new.words new.units ≡ true
      leaves-sound = carry-sound (call c) (keeps fine) h m u ok

      -- .. in which no piece holds half a pair.
      pub leaves-pairs : AllPaired (take new.head.units new.units) (list_of new.head new.words)
      leaves-pairs = (model-sound new.head new.words new.units (sound-parts new.head new.words new.units leaves-sound)).pairs

      module _ (done : new.refusal ≡ 0) where
        accepted : (call c s).refusal ≡ 0
        accepted = sym refusal_is ∙ done

        -- The sheet that lies in the buffers then is the rules' ..
        pub leaves-model : model_of new.head new.words new.units ≡ (call c s).sheet
        leaves-model = carry-model (call c) (keeps fine) h m u ok accepted

        -- .. seen by any key it shows what the rules say ..
        pub leaves-cells : (j : ℕ) → In j keys → cells live j 0 (list_of new.head new.words) ≡ shows j c s
        leaves-cells j jk = ap (λ (x : Sheet). cells live j 0 x.items) leaves-model ∙ call-cells j jk c s within accepted

        -- .. and what the transaction found stays readable.
        pub leaves-before : Edit c → (j : ℕ) → cells before j 0 (list_of new.head new.words) ≡ cells before j 0 (list_of h m)
        leaves-before d j = ap (λ (x : Sheet). cells before j 0 x.items) leaves-model ∙ call-before j c d fine s (model-sound h m u (sound-parts h m u ok))

  -- 9 exactly where the sheet is not sound
  pub broken-exactly : (new.refusal ≡ 9) ↔ (sound_of h m u ≡ false)
  broken-exactly = (λ e. go (sound_of h m u) refl e, λ e. ap (λ (x : Carried). x.refusal) (carry-broken (call c) h m u e))
    where
      go : (b : Bool) → sound_of h m u ≡ b → new.refusal ≡ 9 → sound_of h m u ≡ false
      go true ok e = absurd (omega (arith, e, (refused-exactly ok).other))
      go false ok e = ok

  -- A refusal changes nothing.
  pub refused-keeps : (new.refusal ≡ 0 → ⊥) → new ≡ kept_all new.refusal h m u
  refused-keeps some = go (sound_of h m u) refl
    where
      go : (b : Bool) → sound_of h m u ≡ b → new ≡ kept_all new.refusal h m u
      go true ok =
          let e = carry-refused (call c) h m u ok (λ (z : (call c s).refusal ≡ 0). some (refusal_is ok ∙ z)) in
          e ∙ ap (λ (n : ℕ). kept_all n h m u) (sym (refusal_is ok))
      go false ok =
          let e = carry-broken (call c) h m u ok in
          e ∙ ap (λ (n : ℕ). kept_all n h m u) (sym (ap (λ (x : Carried). x.refusal) e))

-- Format, cell by cell: inside the range A's value where A has the key, and nothing else changes.
pub format-shows : (i n : ℕ) (a : Set) (h : Head) (m u : List ℕ) → sound_of h m u ≡ true → FineCall (format_range i n a) → (j : ℕ) → In j keys → (
    let new = carry (format_range i n a) h m u in
    new.refusal ≡ 0 → (d : Cell) (p : ℕ) → p < visible (list_of h m) → Formatted i n (lay_cell (a j)) (cells live j 0 (list_of h m)) (cells live j 0 (list_of new.head new.words)) d p
    )
format-shows i n a h m u ok fine j jk done d p l =
    let c = format_range i n a in
    let s = model_of h m u in
    subst⁻¹ (λ (x : Sheet). Formatted i n (lay_cell (a j)) (cells live j 0 s.items) (cells live j 0 x.items) d p) (leaves-model c h m u ok fine done)
    (format_points j jk i n a s (model-sound h m u (sound-parts h m u ok)).within (sym (refusal_is c h m u ok) ∙ done) d p l)

-- A set in memory holds bytes, so what it says is fine.
pub says_fine : (a : Attrs) → ((k : ℕ) → get_or a.values k 0 < 256) → FineSet Byte (says a)
unfolding says look
says_fine a small k v e = go (ltb k 16) (bit a.mask k) e
  where
    go : (t : Bool) (b : ℕ) → cond t (seen (held b (get_or a.values k 0))) absent ≡ is v → v < 256
    go true zero e = let z : ◌≡◌ {A = ℕ} 0 1 = cc in absurd (omega arith)
    go true (suc b) e = let q : get_or a.values k 0 ≡ v = cc in omega (arith, small k)
    go false b e = let z : ◌≡◌ {A = ℕ} 0 1 = cc in absurd (omega arith)

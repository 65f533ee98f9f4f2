-- What the call leaves in the buffers, from the rules' theorems. Assumes nothing.
use Prim.Native.Nat.{ℕ, ◌<◌}
use native.Mathlib.Omega.{arith}
use mathlib.Core.Path.{◌≡◌, refl, sym, ap, subst⁻¹, ◌∙◌}
use mathlib.Core.Bool.{Bool, true, false}
use mathlib.Core.List.{List, [], ◌∷◌, map}
use mathlib.Core.Logic.{◌↔◌}
use lib.ListN.{length, get_or, take}
use Rattle.sets.specs.Sets.{Set, keys}
use Rattle.attrs.specs.Packed.{says}
use Rattle.rules.specs.Reading as rules
use Rattle.rules.specs.Reading.{live, before, cells}
use Rattle.rules.specs.Calls.{Sheet, Body, Call, apply_delta, call, AllPaired}
use Rattle.rules.specs.Rulings.{unwhole, in_pair, too_far, crowded, Exactly, FineSet, Byte, FineOps}
use Rattle.rules.specs.Shows.{shows}
use Rattle.laws.proofs.Lists.{In}
use Rattle.layout.specs.declared.head.Head.{Head}
use Rattle.layout.specs.Memory.{list_of, model_of, sound_of, Carried, kept_all, carry}
use Rattle.layout.proofs.Soundness.{sound-parts}
use Rattle.layout.proofs.Models.{model-sound}
use Rattle.sheet.proofs.Theorems as sheet
use Rattle.ops.specs.declared.delta.Inserted.TheVariants.{Text, Embed}
use Rattle.ops.specs.declared.delta.Op.{Op}
use Rattle.ops.specs.declared.delta.Op.TheVariants.{Insert, Delete, Retain}
use Rattle.ops.specs.declared.delta.DeltaOp.{DeltaOp}
use Rattle.ops.specs.declared.delta.Delta.{Delta}
use Rattle.ops.specs.Ops.{op_for, op_of, ops_of}
use Rattle.carrying.specs.Turns.{given}
use Rattle.deltas.specs.Checks.{many_of}
use Rattle.deltas.specs.Call.{short_scratch, carry_delta}
use Rattle.deltas.proofs.Applying.{carried-unsound, carried-many, carried-short, carried-ruled}

module _ (sm su : ℕ) (t : List ℕ) (d : Delta) (h : Head) (m u : List ℕ) where
  abbrev s : Sheet
  s = model_of h m u

  abbrev c : Call
  c = apply_delta (ops_of t d)

  abbrev new : Carried
  new = carry_delta sm su t d h m u

  -- ---- the call goes one of four ways
  data Way : Type 0 where
    unsound : sound_of h m u ≡ false → new ≡ kept_all 9 h m u → Way
    many : sound_of h m u ≡ true → many_of (length t) d ≡ true → new ≡ kept_all 7 h m u → Way
    short : sound_of h m u ≡ true → many_of (length t) d ≡ false → short_scratch sm su ≡ true → new ≡ kept_all 8 h m u → Way
    ruled : sound_of h m u ≡ true → many_of (length t) d ≡ false → short_scratch sm su ≡ false → new ≡ carry c h m u → Way

  way : Way
  way = go (sound_of h m u) (many_of (length t) d) (short_scratch sm su) refl refl refl
    where
      go : (a b e : Bool) → sound_of h m u ≡ a → many_of (length t) d ≡ b → short_scratch sm su ≡ e → Way
      go false b e x y z = unsound x (sym (carried-unsound sm su t d h m u x))
      go true true e x y z = many x y (sym (carried-many sm su t d h m u x y))
      go true false true x y z = short x y z (sym (carried-short sm su t d h m u x y z))
      go true false false x y z = ruled x y z (sym (carried-ruled sm su t d h m u x y z _ refl))

  number : {x : Carried} → new ≡ x → new.refusal ≡ x.refusal
  number e = ap (λ (y : Carried). y.refusal) e

  -- ---- refusals: 9, then 7, then 8, each exactly when
  pub nine : (new.refusal ≡ 9) ↔ (sound_of h m u ≡ false)
  nine = (go way, λ e. number (sym (carried-unsound sm su t d h m u e)))
    where
      go : Way → new.refusal ≡ 9 → sound_of h m u ≡ false
      go (unsound x e) n = x
      go (many x y e) n = let q : new.refusal ≡ 7 = number e in absurd (omega (arith, n, q))
      go (short x y z e) n = let q : new.refusal ≡ 8 = number e in absurd (omega (arith, n, q))
      go (ruled x y z e) n = absurd (omega (arith, n, number e, (sheet.refused-exactly c h m u x).other))

  pub seven : (new.refusal ≡ 7) ↔ ((sound_of h m u ≡ true) × (many_of (length t) d ≡ true))
  seven = (go way, λ e. number (sym (carried-many sm su t d h m u e.0 e.1)))
    where
      go : Way → new.refusal ≡ 7 → (sound_of h m u ≡ true) × (many_of (length t) d ≡ true)
      go (unsound x e) n = let q : new.refusal ≡ 9 = number e in absurd (omega (arith, n, q))
      go (many x y e) n = (x, y)
      go (short x y z e) n = let q : new.refusal ≡ 8 = number e in absurd (omega (arith, n, q))
      go (ruled x y z e) n = absurd (omega (arith, n, number e, (sheet.refused-exactly c h m u x).other))

  pub eight : (new.refusal ≡ 8) ↔ ((sound_of h m u ≡ true) × (many_of (length t) d ≡ false) × (short_scratch sm su ≡ true))
  eight = (go way, λ e. number (sym (carried-short sm su t d h m u e.0 e.1 e.2)))
    where
      go : Way → new.refusal ≡ 8 → (sound_of h m u ≡ true) × (many_of (length t) d ≡ false) × (short_scratch sm su ≡ true)
      go (unsound x e) n = let q : new.refusal ≡ 9 = number e in absurd (omega (arith, n, q))
      go (many x y e) n = let q : new.refusal ≡ 7 = number e in absurd (omega (arith, n, q))
      go (short x y z e) n = (x, y, z)
      go (ruled x y z e) n = absurd (omega (arith, n, number e, (sheet.refused-exactly c h m u x).other))

  -- where none of these is given: 3, 2, 1, 4 and acceptance, each exactly when
  pub refused-exactly : sound_of h m u ≡ true → many_of (length t) d ≡ false → short_scratch sm su ≡ false → Exactly (unwhole c s) (in_pair c s) (too_far c s) (crowded c s) new.refusal
  refused-exactly ok read long =
      subst⁻¹ (Exactly (unwhole c s) (in_pair c s) (too_far c s) (crowded c s)) (number (sym (carried-ruled sm su t d h m u ok read long _ refl))) (sheet.refused-exactly c h m u ok)

  -- A refusal changes nothing.
  pub refused-keeps : (new.refusal ≡ 0 → ⊥) → new ≡ kept_all new.refusal h m u
  refused-keeps some = go way
    where
      kept : (n : ℕ) → new ≡ kept_all n h m u → new ≡ kept_all new.refusal h m u
      kept n e = e ∙ ap (λ (k : ℕ). kept_all k h m u) (sym (number e))

      go : Way → new ≡ kept_all new.refusal h m u
      go (unsound x e) = kept 9 e
      go (many x y e) = kept 7 e
      go (short x y z e) = kept 8 e
      go (ruled x y z e) = kept _ (e ∙ sheet.refused-keeps c h m u (λ (q : (carry c h m u).refusal ≡ 0). some (number e ∙ q)))

  module _ (fine : FineOps (ops_of t d)) where
    -- A sound sheet stays sound.
    pub leaves-sound : sound_of h m u ≡ true → sound_of new.head new.words new.units ≡ true
    leaves-sound ok = go way
      where
        by : (x : Carried) → new ≡ x → sound_of x.head x.words x.units ≡ true → sound_of new.head new.words new.units ≡ true
        by x e k = subst⁻¹ (λ (y : Carried). sound_of y.head y.words y.units ≡ true) e k

        go : Way → sound_of new.head new.words new.units ≡ true
        go (unsound x e) = by (kept_all 9 h m u) e ok
        go (many x y e) = by (kept_all 7 h m u) e ok
        go (short x y z e) = by (kept_all 8 h m u) e ok
        go (ruled x y z e) = by (carry c h m u) e (sheet.leaves-sound c h m u x fine)

    -- No piece holds half a pair.
    pub leaves-pairs : sound_of h m u ≡ true → AllPaired (take new.head.units new.units) (list_of new.head new.words)
    leaves-pairs ok = (model-sound new.head new.words new.units (sound-parts new.head new.words new.units (leaves-sound ok))).pairs

    module _ (done : new.refusal ≡ 0) where
      accepted : (sound_of h m u ≡ true) × (new ≡ carry c h m u)
      accepted = go way
        where
          go : Way → (sound_of h m u ≡ true) × (new ≡ carry c h m u)
          go (unsound x e) = let q : new.refusal ≡ 9 = number e in absurd (omega (arith, done, q))
          go (many x y e) = let q : new.refusal ≡ 7 = number e in absurd (omega (arith, done, q))
          go (short x y z e) = let q : new.refusal ≡ 8 = number e in absurd (omega (arith, done, q))
          go (ruled x y z e) = (x, e)

      done-there : (carry c h m u).refusal ≡ 0
      done-there = sym (number accepted.1) ∙ done

      -- Accepted, it leaves the rules' sheet ..
      pub leaves-model : model_of new.head new.words new.units ≡ (call c s).sheet
      leaves-model = subst⁻¹ (λ (x : Carried). model_of x.head x.words x.units ≡ (call c s).sheet) accepted.1 (sheet.leaves-model c h m u accepted.0 fine done-there)

      -- .. whose cells are what reading the delta over the cells before gives ..
      pub leaves-cells : (j : ℕ) → In j keys → cells live j 0 (list_of new.head new.words) ≡ shows j c s
      leaves-cells j jk = subst⁻¹ (λ (x : Carried). cells live j 0 (list_of x.head x.words) ≡ shows j c s) accepted.1 (sheet.leaves-cells c h m u accepted.0 fine done-there j jk)

      -- .. and what the transaction found stays readable.
      pub leaves-before : (j : ℕ) → cells before j 0 (list_of new.head new.words) ≡ cells before j 0 (list_of h m)
      leaves-before j = subst⁻¹ (λ (x : Carried). cells before j 0 (list_of x.head x.words) ≡ cells before j 0 (list_of h m)) accepted.1 (sheet.leaves-before c h m u accepted.0 fine done-there tt j)

-- ---- a delta in memory has bytes for values and 32 bits for an embed, so what it says is fine
abbrev pub InOp : Op → Type 0
InOp (Insert (Text a n)) = Unit {0}
InOp (Insert (Embed e)) = e < 4294967296
InOp (Delete n) = Unit {0}
InOp (Retain n) = Unit {0}

abbrev pub AllInOp : List DeltaOp → Type 0
AllInOp [] = Unit {0}
AllInOp (d ∷ ds) = ((k : ℕ) → get_or d.attrs.values k 0 < 256) × InOp d.op × AllInOp ds

fine-one : (t : List ℕ) (o : Op) (a : Set) (os : List (rules.Op Body)) → InOp o → FineSet Byte a → FineOps os → FineOps (op_for t a o ∷ os)
fine-one t (Insert (Text x n)) a os i b f = (tt, b, f)
fine-one t (Insert (Embed e)) a os i b f = (i, b, f)
fine-one t (Delete n) a os i b f = f
fine-one t (Retain n) a os i b f = (b, f)

fine_all : (t : List ℕ) (ds : List DeltaOp) → AllInOp ds → FineOps (map (op_of t) ds)
unfolding op_of
fine_all t [] f = tt
fine_all t (d ∷ ds) f = fine-one t d.op (says d.attrs) (map (op_of t) ds) f.1 (sheet.says_fine d.attrs f.0) (fine_all t ds f.2)

pub delta_fine : (t : List ℕ) (d : Delta) → AllInOp (given d) → FineOps (ops_of t d)
unfolding ops_of
delta_fine t d f = fine_all t (given d) f

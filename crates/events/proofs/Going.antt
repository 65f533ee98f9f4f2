-- The walk that tells the operations: rest and state gathered are the whole.
use Prim.Native.Nat.{ℕ, zero, suc, ◌+◌, ◌-◌, ◌*◌, ◌≤◌, ◌<◌}
use native.Mathlib.Omega.{arith}
use mathlib.Core.Path.{◌≡◌, refl, sym, ap, subst, ◌∙◌}
use mathlib.Core.Bool.{Bool, true, false, cond}
use mathlib.Core.List.{List, [], ◌∷◌, ◌++◌}
use lib.Dec.{ltb}
use lib.ListN.{length}
use lib.Seq.{sets, length-sets}
use Rattle.std.specs.Prelude.{Option, None, Some}
use Rattle.std.specs.Option.{option_to_list}
use Rattle.rules.specs.Sheet.{What, text, embed, mark, Item, width}
use Rattle.rules.specs.Sound.{Fits, AllFit}
use Rattle.rules.specs.Event.{Asm, fresh, add_op, step, told, told_units}
use Rattle.layout.specs.declared.head.Head.{Head}
use Rattle.layout.specs.Chain.{item_at, next_at, chain, walks}
use Rattle.layout.specs.Memory.{list_of}
use Rattle.layout.proofs.Links.{chain-step, walks_next}
use Rattle.ops.specs.declared.delta.DeltaOp.{DeltaOp}
use Rattle.encoding.specs.Words.{words_of}
use Rattle.assembling.specs.declared.assembler.Assembler.{Assembler}
use Rattle.assembling.specs.declared.assembler.Passed.{Passed}
use Rattle.events.specs.declared.telling.Count.{Count}
use Rattle.events.specs.declared.event.Written.{Written}
use Rattle.assembling.specs.Steps.{was_by, is_by, load, inserted_by, run_op, pass_by, fresh_asm}
use Rattle.events.specs.Told.{delta_ops, tell_all, telling, Telling, begun, kept_by, wrote_by}
use Rattle.events.specs.Walks.{Walkable, Walked, gathered}
use Rattle.events.proofs.Tellings.{tell-append, ops_append}
use Rattle.events.proofs.Turns.{run_of, code_of, Plain, Steps, told-append, op-told, units-told}
use Rattle.events.proofs.Steps.{Small, Fair, does, passed_by, pass-load, small-past}

pub record Going (back : Bool) (limit : ℕ) (a : Assembler) (n : Count) (w w₀ : List ℕ) (rest whole : List Item) : Type 0 where
  pub t : Asm
  pub same : a ≡ code_of a.units t
  pub plain : Plain t.run
  pub small : Small t
  pub tells : tell_all limit (telling n w) (delta_ops a.units (gathered back t rest)) ≡ tell_all limit (begun w₀) (delta_ops 0 (gathered back fresh whole))
  pub units : a.units + told_units (gathered back t rest) ≡ told_units (gathered back fresh whole)

pub going_start : (back : Bool) (limit : ℕ) (w : List ℕ) (l : List Item) → Going back limit fresh_asm (record { told = 0; kept = 0 }) w w l l
going_start back limit w l = record { t = fresh; same = refl; plain = tt; small = λ k. omega arith; tells = refl; units = omega arith }

pub going_step : (back : Bool) (limit : ℕ) (a : Assembler) (n n₁ n₂ : Count) (w w₁ w₂ w₀ : List ℕ) (i : Item) (l whole : List Item) (P : Passed)
    → Going back limit a n w w₀ (i ∷ l) whole → Fair i.what
    → P ≡ pass_by (was_by back i.flags) (is_by back i.flags) i.what a
    → telling n₁ w₁ ≡ tell_all limit (telling n w) (option_to_list P.first)
    → telling n₂ w₂ ≡ tell_all limit (telling n₁ w₁) (option_to_list P.second)
    → Going back limit P.asm n₂ w₂ w₀ l whole
going_step back limit a n n₁ n₂ w w₁ w₂ w₀ i l whole P g f e_p e₁ e₂ =
    let was = was_by back i.flags in
    let now = is_by back i.flags in
    let t = g.t in
    let t' = passed_by was now i.what t in
    let ops = told (step was now i.what t) t in
    let more = gathered back t' l in
    let e : P ≡ pass_by was now i.what (code_of a.units t) = e_p ∙ ap (pass_by was now i.what) g.same in
    let D : Steps P a.units ops t' = subst (λ (x : Passed). Steps x a.units ops t') (sym e) (does was now i.what a.units t g.plain g.small f) in
    let u : P.asm.units ≡ a.units + told_units ops = ap (λ (x : Assembler). x.units) D.asm in
    let rest : List DeltaOp = delta_ops P.asm.units more in
    record {
      t = t';
      same = D.asm ∙ ap (λ (x : ℕ). code_of x t') (sym u);
      plain = D.plain;
      small = small-past was now i.what t g.small f;
      tells =
          ap (λ (s : Telling). tell_all limit s rest) (e₂ ∙ ap (λ (s : Telling). tell_all limit s (option_to_list P.second)) e₁ ∙ sym (tell-append limit (telling n w) (option_to_list P.first) (option_to_list P.second)))
          ∙ sym (tell-append limit (telling n w) (option_to_list P.first ++ option_to_list P.second) rest)
          ∙ ap (λ (x : List DeltaOp). tell_all limit (telling n w) (x ++ rest)) D.tells
          ∙ ap (λ (x : ℕ). tell_all limit (telling n w) (delta_ops a.units ops ++ delta_ops x more)) u
          ∙ ap (tell_all limit (telling n w)) (sym (ops_append a.units ops more))
          ∙ g.tells;
      units = omega (arith, u, told-append ops more, g.units);
    }

pub record Ended (back : Bool) (limit : ℕ) (a : Assembler) (n : Count) (w w₀ : List ℕ) (whole : List Item) : Type 0 where
  pub tells : telling n w ≡ tell_all limit (begun w₀) (delta_ops 0 (gathered back fresh whole))
  pub units : a.units + inserted_by a.run ≡ told_units (gathered back fresh whole)

pub going_end : (back : Bool) (limit : ℕ) (a : Assembler) (n n₁ : Count) (w w₁ w₀ : List ℕ) (whole : List Item) (m : Option DeltaOp)
    → Going back limit a n w w₀ [] whole → m ≡ run_op a.run a → telling n₁ w₁ ≡ tell_all limit (telling n w) (option_to_list m)
    → Ended back limit a n₁ w₁ w₀ whole
going_end back limit a n n₁ w w₁ w₀ whole m g em e =
    let t = g.t in
    let o : m ≡ run_op (run_of t.run) (code_of a.units t) = em ∙ ap (λ (x : Assembler). run_op x.run x) g.same in
    let u : inserted_by a.run ≡ told_units (add_op t.run t.attrs t.cur) = ap (λ (x : Assembler). inserted_by x.run) g.same ∙ units-told t.run t.attrs t.cur in
    record {
      tells = e ∙ ap (λ (x : Option DeltaOp). tell_all limit (telling n w) (option_to_list x)) o ∙ ap (tell_all limit (telling n w)) (op-told a.units t g.plain) ∙ g.tells;
      units = ap (λ (x : ℕ). a.units + x) u ∙ g.units;
    }

-- ---- counts

told_is : (limit : ℕ) (s : Telling) (ds : List DeltaOp) → (tell_all limit s ds).told ≡ s.told + length ds
unfolding tell_all
told_is limit s [] = omega arith
told_is limit s (d ∷ ds) = omega (arith, told_is limit (record { told = s.told + 1; kept = kept_by s.told s.kept d; words = wrote_by limit s.told s.words d }) ds)

one-op : (m : Option DeltaOp) → length (option_to_list m) ≤ 1
one-op None = omega arith
one-op (Some d) = omega arith

-- an operation at most is told
pub told-one : (limit : ℕ) (n n₁ : Count) (w w₁ : List ℕ) (m : Option DeltaOp) → telling n₁ w₁ ≡ tell_all limit (telling n w) (option_to_list m) → n₁.told ≤ n.told + 1
told-one limit n n₁ w w₁ m e = omega (arith, ap (λ (s : Telling). s.told) e, told_is limit (telling n w) (option_to_list m), one-op m)

words_long : (limit : ℕ) (s : Telling) (ds : List DeltaOp) → length (tell_all limit s ds).words ≡ length s.words
unfolding tell_all
words_long limit s [] = refl
words_long limit s (d ∷ ds) =
    words_long limit (record { told = s.told + 1; kept = kept_by s.told s.kept d; words = wrote_by limit s.told s.words d }) ds ∙ go (ltb s.told limit)
  where
    go : (b : Bool) → length (cond b (sets s.words (s.told * 8) (words_of d)) s.words) ≡ length s.words
    go true = length-sets s.words (s.told * 8) (words_of d)
    go false = refl

-- no number more, no number less
pub told-long : (limit : ℕ) (n n₁ : Count) (w w₁ : List ℕ) (m : Option DeltaOp) → telling n₁ w₁ ≡ tell_all limit (telling n w) (option_to_list m) → length w₁ ≡ length w
told-long limit n n₁ w w₁ m e = ap (λ (s : Telling). length s.words) e ∙ words_long limit (telling n w) (option_to_list m)

-- ---- items

pub fair : (used : ℕ) (w : What) → used ≤ 16384 → Fits used w → Fair w
fair used (text s n) h f = omega arith
fair used (embed e) h f = tt
fair used (mark k v) h f = f

-- the first item of a walk, and the rest
pub fit_parts : (used k : ℕ) (m : List ℕ) (s : ℕ) → 0 < k → AllFit used (chain k m s) → Fits used (item_at m s).what × AllFit used (chain (k - 1) m (next_at m s))
fit_parts used k m s h f = let p : AllFit used (item_at m s ∷ chain (k - 1) m (next_at m s)) = subst (AllFit used) (chain-step k m s h) f in (p.1, p.2)

-- ---- the loop

fit-one : (used n : ℕ) (w : What) → used ≤ n → Fits used w → Fits n w
fit-one used n (text s k) h f = (f.0, omega (arith, f.1))
fit-one used n (embed e) h f = tt
fit-one used n (mark k v) h f = f

pub fit-more : (used n : ℕ) (l : List Item) → used ≤ n → AllFit used l → AllFit n l
fit-more used n [] h f = tt
fit-more used n (i ∷ l) h f = (f.0, fit-one used n i.what h f.1, fit-more used n l h f.2)

narrow : (w : What) → Fits 16384 w → width w ≤ 16384
narrow (text s n) f = omega (arith, f.1)
narrow (embed e) f = omega arith
narrow (mark k v) f = omega arith

pub record Walking (back : Bool) (limit : ℕ) (m w₀ w : List ℕ) (a : Assembler) (n : Count) (at k at₀ k₀ : ℕ) : Type 0 where
  pub few : k ≤ k₀
  pub most : k₀ ≤ 2048
  pub walk : walks k₀ k m at ≡ true
  pub fit : AllFit 16384 (chain k m at)
  pub going : Going back limit a n w w₀ (chain k m at) (chain k₀ m at₀)
  pub light : load a ≤ (k₀ - k) * 16384
  pub rare : n.told ≤ (k₀ - k) * 2
  pub long : length w ≡ length w₀

pub walking_start : (back : Bool) (limit : ℕ) (h : Head) (m w : List ℕ) → Walkable h m
    → Walking back limit m w w fresh_asm (record { told = 0; kept = 0 }) h.first h.items h.first h.items
walking_start back limit h m w q = record {
  few = omega arith;
  most = q.items;
  walk = q.walk;
  fit = fit-more h.units 16384 (list_of h m) q.used q.fit;
  going = going_start back limit w (list_of h m);
  light = omega arith;
  rare = omega arith;
  long = refl;
}

module _ (back : Bool) (limit : ℕ) (m w₀ w : List ℕ) (a : Assembler) (n : Count) (at k at₀ k₀ : ℕ) (g : Walking back limit m w₀ w a n at k at₀ k₀) (z : 0 < k) where
  -- the item of the turn
  pub wide : width (item_at m at).what ≤ 16384
  wide = narrow (item_at m at).what (fit_parts 16384 k m at z g.fit).0

  pub walking-step : (n₁ n₂ : Count) (w₁ w₂ : List ℕ) (P : Passed)
      → P ≡ pass_by (was_by back (item_at m at).flags) (is_by back (item_at m at).flags) (item_at m at).what a
      → telling n₁ w₁ ≡ tell_all limit (telling n w) (option_to_list P.first)
      → telling n₂ w₂ ≡ tell_all limit (telling n₁ w₁) (option_to_list P.second)
      → Walking back limit m w₀ w₂ P.asm n₂ (next_at m at) (k - 1) at₀ k₀
  walking-step n₁ n₂ w₁ w₂ P e e₁ e₂ =
      let i = item_at m at in
      let l = chain (k - 1) m (next_at m at) in
      let whole = chain k₀ m at₀ in
      let f = fit_parts 16384 k m at z g.fit in
      let here : Going back limit a n w w₀ (i ∷ l) whole = subst (λ (x : List Item). Going back limit a n w w₀ x whole) (chain-step k m at z) g.going in
      let more : load P.asm ≤ load a + width i.what = subst (λ (x : Passed). load x.asm ≤ load a + width i.what) (sym e) (pass-load (was_by back i.flags) (is_by back i.flags) i.what a) in
      record {
        few = omega (arith, g.few);
        most = g.most;
        walk = walks_next k₀ k m at z g.walk;
        fit = f.1;
        going = going_step back limit a n n₁ n₂ w w₁ w₂ w₀ i l whole P here (fair 16384 i.what (omega arith) f.0) e e₁ e₂;
        light = omega (arith, more, wide, g.light, g.few);
        rare = omega (arith, told-one limit n n₁ w w₁ P.first e₁, told-one limit n₁ n₂ w₁ w₂ P.second e₂, g.rare, g.few);
        long = told-long limit n₁ n₂ w₁ w₂ P.second e₂ ∙ told-long limit n n₁ w w₁ P.first e₁ ∙ g.long;
      }

pub walking-end : (back : Bool) (limit : ℕ) (m w₀ w : List ℕ) (a : Assembler) (n : Count) (at k at₀ k₀ : ℕ) → Walking back limit m w₀ w a n at k at₀ k₀ → k ≤ 0
    → (mo : Option DeltaOp) (n₁ : Count) (w₁ : List ℕ) (r : Written) → mo ≡ run_op a.run a → telling n₁ w₁ ≡ tell_all limit (telling n w) (option_to_list mo)
    → r.ops ≡ n₁.kept → r.units ≡ a.units + inserted_by a.run → Walked back limit (chain k₀ m at₀) r w₀ w₁
unfolding chain
walking-end back limit m w₀ w a n at (suc k) at₀ k₀ g z mo n₁ w₁ r em e eo eu = absurd (omega arith)
walking-end back limit m w₀ w a n at zero at₀ k₀ g z mo n₁ w₁ r em e eo eu =
    let d = going_end back limit a n n₁ w w₁ w₀ (chain k₀ m at₀) mo g.going em e in
    record { ops = eo ∙ ap (λ (s : Telling). s.kept) d.tells; units = eu ∙ d.units; words = ap (λ (s : Telling). s.words) d.tells }

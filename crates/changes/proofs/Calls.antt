-- The ways of a call, from its ruling. Assumes nothing.
use Prim.Native.Nat.{ℕ, ◌<◌, ◌≤◌}
use native.Mathlib.Omega.{arith}
use mathlib.Core.Path.{◌≡◌, refl, sym, ap, ap₂, ◌∙◌}
use mathlib.Core.Bool.{Bool, true, false, cond, ◌&&◌}
use mathlib.Core.List.{List}
use lib.Dec.{eqb, leb}
use lib.ListN.{length, take}
use borrow.Author.Tests.{eq-eqb, ne_eqb, le-leb, lt-leb}
use Rattle.std.specs.Prelude.{Err}
use Rattle.refusal.specs.declared.Refusal.{Refusal}
use Rattle.refusal.specs.Numbers.{number_of}
use Rattle.refusal.proofs.Numbered.{number-some}
use Rattle.rules.specs.Places.{whole, stay}
use Rattle.rules.specs.Calls.{Sheet, Outcome, refuse, roomy, Call, call}
use Rattle.rules.specs.Rulings.{Ruling, as_is, ruling, ruled, decided}
use Rattle.laws.proofs.Rulings.{call-is}
use Rattle.layout.specs.declared.head.Head.{Head}
use Rattle.layout.specs.Chain.{head_or}
use Rattle.layout.specs.Heads.{grown_head}
use Rattle.layout.specs.Memory.{list_of, model_of, sound_of, stored, stored_units, Carried, leaving, kept_all, stored_all, landed, carry_by, carry}
use Rattle.layout.proofs.Soundness.{sound-parts}
use Rattle.items.proofs.Carries.{carry-broken}
use Rattle.layout.proofs.Models.{used-length, model-sound, sound-head, sound-stored, sound-units}
use Rattle.changes.specs.Frame.{Left, granted}

pub carry_unsound : (c : Call) (h : Head) (m u : List ℕ) → sound_of h m u ≡ false → kept_all 9 h m u ≡ carry c h m u
carry_unsound c h m u e = sym (carry-broken (call c) h m u e)

module _ (c : Call) (h : Head) (m u : List ℕ) (ok : sound_of h m u ≡ true) (r : Ruling) (is : ruling c (model_of h m u) ≡ r) where
  abbrev s : Sheet
  s = model_of h m u

  ruled-is : landed (decided r s) h m u ≡ carry c h m u
  unfolding carry_by
  ruled-is = rw ok (ap (λ (o : Outcome). landed o h m u) (sym (call-is c s (model-sound h m u (sound-parts h m u ok)).within ∙ ap (λ (x : Ruling). decided x s) is)))

  -- refused for a fault
  pub carry-faulty : (n : ℕ) → n ≡ r.fault → (n ≡ 0 → ⊥) → kept_all n h m u ≡ carry c h m u
  carry-faulty n e some =
      let z = ne_eqb n 0 some in
      ap (λ (b : Bool). cond b (stored_all s h m u) (kept_all n h m u)) (sym z)
      ∙ ap (λ (b : Bool). landed (cond b (roomy r.place r.units s) (refuse n s)) h m u) (sym z)
      ∙ ap (λ (k : ℕ). landed (cond (eqb k 0) (roomy r.place r.units s) (refuse k s)) h m u) e
      ∙ ruled-is

  -- as an answer says it
  pub carry-fault : (e : Refusal) → number_of e ≡ r.fault → leaving h (Err e) m u ≡ carry c h m u
  carry-fault e is = carry-faulty (number_of e) is (number-some e)

  module _ (n : ℕ) (e : n ≡ r.fault) (none : n ≡ 0) where
    room-is : landed (roomy r.place r.units s) h m u ≡ carry c h m u
    room-is = ap (λ (b : Bool). landed (cond b (roomy r.place r.units s) (refuse r.fault s)) h m u) (sym (eq-eqb r.fault 0 (sym e ∙ none))) ∙ ruled-is

    -- refused for its units
    pub carry-crowded : 16384 < length r.units → kept_all 4 h m u ≡ carry c h m u
    carry-crowded l = go (leb (length (whole r.place)) 2048) ∙ room-is
      where
        go : (b : Bool) → kept_all 4 h m u ≡ landed (cond (b && leb (length r.units) 16384) (record { refusal = 0; sheet = ruled r }) (refuse 4 s)) h m u
        go true = ap (λ (b : Bool). landed (cond b (record { refusal = 0; sheet = ruled r }) (refuse 4 s)) h m u) (sym (lt-leb (length r.units) 16384 l))
        go false = refl

    -- granted, or refused for its items
    pub carry-granted : (used : ℕ) → length r.units ≡ used → used ≤ 16384 → (x : Left) → x ≡ granted r.place used h m → (v : List ℕ) → v ≡ cond (eqb x.refusal 0) (stored_units r.units u) u
        → record { refusal = x.refusal; head = x.head; words = x.words; units = v } ≡ carry c h m u
    unfolding granted
    carry-granted used long few x ex v ev = go (leb (length (whole r.place)) 2048) x ex ev ∙ room-is
      where
        new : Outcome
        new = record { refusal = 0; sheet = ruled r }

        full : Left
        full = record { refusal = 0; head = grown_head h (head_or (whole r.place)) r.place.next used; words = stored (whole r.place) m }

        both : Left → List ℕ → Carried
        both x v = record { refusal = x.refusal; head = x.head; words = x.words; units = v }

        go : (b : Bool) (x : Left) → x ≡ cond b full (record { refusal = 4; head = h; words = m }) → v ≡ cond (eqb x.refusal 0) (stored_units r.units u) u → both x v ≡ landed (cond (b && leb (length r.units) 16384) new (refuse 4 s)) h m u
        go true x ex ev =
            ap₂ both ex (ev ∙ ap (λ (y : Left). cond (eqb y.refusal 0) (stored_units r.units u) u) ex)
            ∙ ap (λ (n : ℕ). record { refusal = 0; head = grown_head h (head_or (whole r.place)) r.place.next n; words = full.words; units = stored_units r.units u }) (sym long)
            ∙ ap (λ (b : Bool). landed (cond b new (refuse 4 s)) h m u) (sym (le-leb (length r.units) 16384 (omega arith)))
        go false x ex ev = ap₂ both ex (ev ∙ ap (λ (y : Left). cond (eqb y.refusal 0) (stored_units r.units u) u) ex)

    -- the same, where no units come
    pub carry-edited : r.units ≡ take h.units u → (x : Left) → x ≡ granted r.place h.units h m → record { refusal = x.refusal; head = x.head; words = x.words; units = u } ≡ carry c h m u
    carry-edited eu x ex =
        let p = sound-parts h m u ok in
        carry-granted h.units (ap length eu ∙ used-length h m u p) p.used x ex u (either (eqb x.refusal 0))
      where
        either : (b : Bool) → u ≡ cond b (stored_units r.units u) u
        either true = sym (sound-units h m u (sound-parts h m u ok)) ∙ ap (λ (us : List ℕ). stored_units us u) (sym eu)
        either false = refl

-- A call that asks for the sheet as it is.
pub carry_quiet : (c : Call) (h : Head) (m u : List ℕ) → sound_of h m u ≡ true → ruling c (model_of h m u) ≡ as_is (model_of h m u) → kept_all 0 h m u ≡ carry c h m u
unfolding granted
carry_quiet c h m u ok is =
    let p = sound-parts h m u ok in
    let w = (model-sound h m u p).within in
    let s = model_of h m u in
    let head = sound-head h m u p in
    let done : Left = record { refusal = 0; head = grown_head h (head_or (list_of h m)) h.items (length s.units); words = stored (list_of h m) m } in
    let fits : done ≡ granted (stay s.items s.next) (length s.units) h m = ap (λ (b : Bool). cond b done (record { refusal = 4; head = h; words = m })) (sym (le-leb (length (list_of h m)) 2048 w.items)) in
    ap₂ (λ (x : Head) (y : List ℕ). record { refusal = 0; head = x; words = y; units = u }) (sym head) (sym (sound-stored h m u p))
    ∙ carry-granted c h m u ok (as_is s) is 0 refl refl (length s.units) refl w.units done fits u (sym (sound-units h m u p))

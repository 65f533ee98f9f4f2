-- The call: what the two walks and the copy leave is what is to be given. And what always fits.
use Prim.Native.Nat.{ℕ, ◌+◌, ◌-◌, ◌*◌, ◌≤◌, ◌<◌}
use native.Mathlib.Omega.{arith}
use native.Mathlib.Nat.{zero-add}
use mathlib.Core.Path.{◌≡◌, sym, ap, ap₂, subst, ◌∙◌}
use mathlib.Core.Bool.{true, false, cond}
use mathlib.Core.List.{List, ◌++◌}
use lib.Dec.{leb}
use lib.ListN.{length, take, drop}
use lib.Seq.{sets, sets-eq}
use borrow.Author.Tests.{le-leb, lt-leb}
use Rattle.rules.specs.Sound.{AllFit}
use Rattle.rules.specs.Reading.{before, live}
use Rattle.rules.specs.Event.{event, fresh, told_units}
use Rattle.laws.proofs.Fits.{event-fits}
use Rattle.layout.specs.declared.head.Head.{Head}
use Rattle.layout.specs.Memory.{list_of, sound_of}
use Rattle.layout.proofs.Soundness.{sound-parts}
use Rattle.layout.proofs.Models.{used-length, model-sound}
use Rattle.ops.specs.declared.delta.DeltaOp.{DeltaOp}
use Rattle.encoding.specs.Words.{all_words}
use Rattle.events.specs.declared.event.Written.{Written}
use Rattle.events.specs.Told.{Ops, delta_ops, encoded, units_for, texts, tell_all, begun}
use Rattle.events.specs.Walks.{Walkable, Walked, gathered, given_by}
use Rattle.events.specs.Given.{refused, gives, fits_in, given, at_front}
use Rattle.events.proofs.Tellings.{kept-all, words-is, finish-take, take-ops, length-ops, length-words}
use Rattle.events.proofs.Texts.{texts-given, length-texts, finish-units}

pub walkable : (h : Head) (m u : List ℕ) → sound_of h m u ≡ true → Walkable h m
walkable h m u ok =
    let s = sound-parts h m u ok in
    record {
      words = s.words;
      items = s.items;
      used = s.used;
      walk = s.walk;
      fit = subst (λ (n : ℕ). AllFit n (list_of h m)) (used-length h m u s) (model-sound h m u s).list.fit;
    }

-- what is stored from the start on stands at the front
front-is : (vs w : List ℕ) → length vs ≤ length w → sets w 0 vs ≡ at_front vs w
front-is vs w l =
    let e : 0 + length vs ≡ length vs = zero-add (length vs) in
    sets-eq vs w 0 (omega (arith, e)) ∙ ap (λ (n : ℕ). vs ++ drop n w) e

pub length-encoded : (ops : Ops) → length (encoded ops) ≡ 8 * length ops
unfolding encoded
length-encoded ops = length-words (delta_ops 0 ops) ∙ ap (λ (n : ℕ). 8 * n) (length-ops 0 ops)

-- the words of a walk that stops writing at a limit
walked-words : (limit : ℕ) (w : List ℕ) (ops : Ops) → (tell_all limit (begun w) (delta_ops 0 ops)).words ≡ sets w 0 (all_words (take limit (delta_ops 0 ops)))
walked-words limit w ops =
    let e : limit - 0 ≡ limit = omega arith in
    let z : 0 * 8 ≡ 0 = omega arith in
    words-is limit 0 0 w (delta_ops 0 ops)
    ∙ ap₂ (λ (i n : ℕ). sets w i (all_words (take n (delta_ops 0 ops)))) z e

module _ (h : Head) (m u : List ℕ) where
  pub given-broken : (a b : ℕ) → sound_of h m u ≡ false → given before live h m u a b ≡ refused 9
  unfolding given
  given-broken a b e = rw e

  -- The event that is to be given.
  abbrev pub told : Ops
  told = event before live (list_of h m)

  given-sound : (a b : ℕ) → sound_of h m u ≡ true → given before live h m u a b ≡ cond (fits_in a b told) (gives u told) (refused 8)
  unfolding given
  given-sound a b e = rw e

  module _ (ok : sound_of h m u ≡ true) (w₀ o₀ w : List ℕ) (r : Written) (k : Walked false 0 (list_of h m) r w₀ w) where
    pub same : w ≡ w₀
    same = k.words ∙ walked-words 0 w₀ (gathered false fresh (list_of h m))

    pub ops-is : r.ops ≡ length told
    ops-is = k.ops ∙ kept-all 0 w₀ (gathered false fresh (list_of h m))

    pub units-is : r.units ≡ told_units told
    units-is = k.units ∙ sym (finish-units (gathered false fresh (list_of h m)))

    pub no_words : length w < r.ops * 8 → given before live h m u (length w₀) (length o₀) ≡ refused 8
    no_words l =
        let f : leb (length told * 8) (length w₀) ≡ false = lt-leb (length told * 8) (length w₀) (omega (arith, ap length same, ops-is)) in
        given-sound (length w₀) (length o₀) ok ∙ rw f

    pub no-units : r.ops * 8 ≤ length w → length o₀ < r.units → given before live h m u (length w₀) (length o₀) ≡ refused 8
    no-units l n =
        let f : leb (length told * 8) (length w₀) ≡ true = le-leb (length told * 8) (length w₀) (omega (arith, ap length same, ops-is)) in
        let g : leb (told_units told) (length o₀) ≡ false = lt-leb (told_units told) (length o₀) (omega (arith, units-is)) in
        given-sound (length w₀) (length o₀) ok ∙ rw (f, g)

    pub all-fits : r.ops * 8 ≤ length w → r.units ≤ length o₀ → given before live h m u (length w₀) (length o₀) ≡ gives u told
    all-fits l n =
        let f : leb (length told * 8) (length w₀) ≡ true = le-leb (length told * 8) (length w₀) (omega (arith, ap length same, ops-is)) in
        let g : leb (told_units told) (length o₀) ≡ true = le-leb (told_units told) (length o₀) (omega (arith, units-is)) in
        given-sound (length w₀) (length o₀) ok ∙ rw (f, g)

    -- the second walk writes the operations that are kept
    pub wrote : r.ops * 8 ≤ length w → (r₁ : Written) (w₁ : List ℕ) → Walked false r.ops (list_of h m) r₁ w w₁ → w₁ ≡ at_front (encoded told) w₀
    unfolding encoded
    wrote l r₁ w₁ k₁ =
        let all = gathered false fresh (list_of h m) in
        let kept : take r.ops (delta_ops 0 all) ≡ delta_ops 0 told = take-ops r.ops 0 all ∙ ap (λ (n : ℕ). delta_ops 0 (take n all)) ops-is ∙ ap (delta_ops 0) (finish-take all) in
        k₁.words ∙ walked-words r.ops w all ∙ ap (λ (ds : List DeltaOp). sets w 0 (all_words ds)) kept ∙ ap (λ (x : List ℕ). sets x 0 (encoded told)) same
        ∙ front-is (encoded told) w₀ (omega (arith, length-encoded told, ops-is, ap length same))

    pub text-room : r.units ≤ length o₀ → length (units_for u (given_by false (list_of h m))) ≤ length o₀
    text-room l = omega (arith, ap length (texts-given u false (list_of h m)), length-texts u told, units-is)

    pub filled : r.units ≤ length o₀ → (o : List ℕ) → o ≡ sets o₀ 0 (units_for u (given_by false (list_of h m))) → o ≡ at_front (texts u told) o₀
    filled l o e =
        e ∙ ap (sets o₀ 0) (texts-given u false (list_of h m)) ∙ front-is (texts u told) o₀ (omega (arith, length-texts u told, units-is))

  -- 2,048 operations, eight numbers to each, and 16,384 units hold every event: 8 is never given there.
  pub event-room : (a b : ℕ) → sound_of h m u ≡ true → 16384 ≤ a → 16384 ≤ b → given before live h m u a b ≡ gives u told
  event-room a b ok la lb =
      let s = sound-parts h m u ok in
      let l = (model-sound h m u s).list in
      let n = used-length h m u s in
      let f = event-fits before live (list_of h m) h.items (length (take h.units u)) l s.items (omega (arith, n, s.used)) in
      let x : leb (length told * 8) a ≡ true = le-leb (length told * 8) a (omega (arith, f.operations)) in
      let y : leb (told_units told) b ≡ true = le-leb (told_units told) b (omega (arith, f.texts)) in
      given-sound a b ok ∙ rw (x, y)

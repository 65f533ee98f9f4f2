-- What a range of the visible units answers: how long the text is, and each way through the call. Assumes nothing.
use Prim.Native.Nat.{ℕ, zero, suc, ◌+◌, ◌-◌, ◌<◌, ◌≤◌, min}
use native.Mathlib.Omega.{arith}
use mathlib.Core.Path.{◌≡◌, refl, sym, ap, ap₂, ◌∙◌}
use mathlib.Core.Bool.{Bool, true, false, cond}
use mathlib.Core.List.{List, [], ◌∷◌, ◌++◌, map}
use lib.Dec.{leb}
use lib.ListN.{length, take, drop, length-take, length-drop}
use lib.Seq.{get_or-take, take_all}
use borrow.Author.Tests.{le-leb, lt-leb, leb-true}
use Rattle.std.specs.Prelude.{Ok, Err}
use Rattle.refusal.specs.declared.Refusal.{Refusal}
use Rattle.refusal.specs.declared.Refusal.TheVariants.{Out}
use Rattle.refusal.specs.Numbers.{number_of}
use Rattle.refusal.proofs.Numbered.{number-some}
use Rattle.rules.specs.Sheet.{What, text, embed, mark, Item}
use Rattle.rules.specs.Reading.{units_of, visible}
use Rattle.rules.specs.Sound.{Fits, AllFit}
use Rattle.rules.specs.Calls.{unit_at, visible_units, bad_range}
use Rattle.rules.specs.Rulings.{seen}
use Rattle.layout.specs.declared.head.Head.{Head}
use Rattle.layout.specs.Memory.{list_of, model_of, sound_of}
use Rattle.laws.proofs.Shows.{length_seen}
use Rattle.items.specs.Calls.{Length, told as length_told, length_of}
use Rattle.layout.proofs.Soundness.{sound-parts}
use Rattle.layout.proofs.Models.{model-sound, used-length}
use Rattle.runs.specs.Answers.{Count, told, written, answer}
use Rattle.ranges.specs.Texts.{visible_in, text_in, text_answer, showing, Reads}
use Rattle.runs.proofs.Tallies.{start-stands}
use Rattle.ranges.proofs.Texts.{shown_of, shown-cons}

-- ---- how long, and where it is read

length-visible : (u : List ℕ) (l : List Item) → length (visible_units u l) ≡ visible l
length-visible u l = length_seen (record { items = l; units = u; next = 0 })

module _ (h : Head) (m u : List ℕ) where
  pub text-long : (i n : ℕ) → length (text_in h m u i n) ≡ min n (visible (list_of h m) - i)
  unfolding visible_in
  text-long i n = simp (length-take, length-drop, length-visible)

  all_fit : sound_of h m u ≡ true → AllFit h.units (list_of h m)
  all_fit e = let s = sound-parts h m u e in rw (used-length h m u s) at (model-sound h m u s).list.fit

  pub reads-start : sound_of h m u ≡ true → Reads m u h.first h.items
  reads-start e =
      let s = sound-parts h m u e in
      let st = start-stands h m u e in
      record {
        used = h.units;
        walk = st.walk;
        fit = all_fit e;
        room = omega (arith, s.used, s.room);
      }

-- as many units of a list as a front of it has are that front
fit-take : (n : ℕ) (xs : List ℕ) → take (length (take n xs)) xs ≡ take n xs
fit-take zero xs = refl
fit-take (suc n) [] = refl
fit-take (suc n) (x ∷ xs) = ap (λ (l : List ℕ). x ∷ l) (fit-take n xs)

shows-text : (h : Head) (m u : List ℕ) (i : ℕ) → showing m u h.first h.items i ≡ drop i (visible_in h m u)
unfolding showing visible_in
shows-text h m u i = refl

-- the text is a front of what is shown from there on
pub text-within : (h : Head) (m u : List ℕ) (i n : ℕ) → length (text_in h m u i n) ≤ length (showing m u h.first h.items i)
text-within h m u i n = rw shows-text (simp length-take (omega arith))

-- ---- what the sheet shows lies in the used units
piece-used : (u : List ℕ) (used s n : ℕ) → s + n ≤ used → map (unit_at (take used u)) (units_of s n) ≡ map (unit_at u) (units_of s n)
piece-used u used s zero l = refl
piece-used u used s (suc n) l = ap₂ (λ (x : ℕ) (xs : List ℕ). x ∷ xs) (get_or-take used u s 0 (omega arith)) (piece-used u used (suc s) n (omega arith))

item-used : (u : List ℕ) (used : ℕ) (d : Bool) (w : What) → Fits used w → shown_of (take used u) d w ≡ shown_of u d w
item-used u used true w f = refl
item-used u used false (text s n) f = piece-used u used s n f.1
item-used u used false (embed x) f = refl
item-used u used false (mark k v) f = refl

units-used : (u : List ℕ) (used : ℕ) (l : List Item) → AllFit used l → visible_units (take used u) l ≡ visible_units u l
units-used u used [] f = refl
units-used u used (i ∷ l) f =
    shown-cons (take used u) i l
    ∙ ap₂ ◌++◌ (item-used u used i.flags.dead i.what f.1) (units-used u used l f.2)
    ∙ sym (shown-cons u i l)

seen-is : (h : Head) (m u : List ℕ) → sound_of h m u ≡ true → seen (model_of h m u) ≡ visible_in h m u
unfolding visible_in
seen-is h m u e = units-used u h.units (list_of h m) (all_fit h m u e)

-- ---- the answer

module _ (h : Head) (m u : List ℕ) (i n room : ℕ) where
  -- there is no length
  pub plan-broken : (e : Refusal) → length_told (Err e) ≡ length_of h m u → told (Err e) ≡ text_answer h m u i n room
  unfolding length_of text_answer
  plan-broken e is = go (sound_of h m u) refl
    where
      go : (b : Bool) → sound_of h m u ≡ b → told (Err e) ≡ text_answer h m u i n room
      go true q = absurd (number-some e (ap (λ (l : Length). l.refusal) (rw q at is)))
      go false q = rw q (ap (λ (l : Length). answer l.refusal 0) (rw q at is))

  -- there is one
  pub plan-sound : (k : ℕ) → length_told (Ok k) ≡ length_of h m u → (sound_of h m u ≡ true) × (k ≡ visible (list_of h m))
  unfolding length_of
  plan-sound k is = go (sound_of h m u) refl
    where
      go : (b : Bool) → sound_of h m u ≡ b → (sound_of h m u ≡ true) × (k ≡ visible (list_of h m))
      go true q = (q, ap (λ (l : Length). l.len) (rw q at is))
      go false q = let z = ap (λ (l : Length). l.refusal) (rw q at is) in absurd (omega (arith, z))

  module _ (e : sound_of h m u ≡ true) where
    bad-is : ◌≡◌ {A = ℕ} (cond (bad_range (seen (model_of h m u)) i n) 2 0) (cond (bad_range (visible_in h m u) i n) 2 0)
    bad-is = ap (λ (us : List ℕ). cond (bad_range us i n) 2 0) (seen-is h m u e)

    -- an end of the range falls inside a pair
    pub plan-pair : (f : Refusal) → number_of f ≡ cond (bad_range (seen (model_of h m u)) i n) 2 0 → told (Err f) ≡ text_answer h m u i n room
    unfolding text_answer
    plan-pair f is = go (bad_range (visible_in h m u) i n) refl
      where
        go : (b : Bool) → bad_range (visible_in h m u) i n ≡ b → told (Err f) ≡ text_answer h m u i n room
        go true q = rw (e, q) (ap (λ (x : ℕ). answer x 0) (rw q at (is ∙ bad-is)))
        go false q = absurd (number-some f (rw q at (is ∙ bad-is)))

    -- none does
    module _ (is : ◌≡◌ {A = ℕ} 0 (cond (bad_range (seen (model_of h m u)) i n) 2 0)) (k : ℕ) (long : k ≡ min n (visible (list_of h m) - i)) where
      answer-is : cond (leb k room) (answer 0 k) (answer 8 0) ≡ text_answer h m u i n room
      unfolding text_answer
      answer-is = go (bad_range (visible_in h m u) i n) refl
        where
          go : (b : Bool) → bad_range (visible_in h m u) i n ≡ b → cond (leb k room) (answer 0 k) (answer 8 0) ≡ text_answer h m u i n room
          go true q = let z : ◌≡◌ {A = ℕ} 0 2 = rw q at (is ∙ bad-is) in absurd (omega (arith, z))
          go false q = rw (e, q, long, text-long h m u i n)

      pub plan-short : room < k → told (Err Out) ≡ text_answer h m u i n room
      plan-short l = ap (λ (b : Bool). cond b (answer 0 k) (answer 8 0)) (sym (lt-leb k room l)) ∙ answer-is

      pub plan-fits : k ≤ room → told (Ok k) ≡ text_answer h m u i n room
      plan-fits l = ap (λ (b : Bool). cond b (answer 0 k) (answer 8 0)) (sym (le-leb k room l)) ∙ answer-is

  -- what is answered and not refused is the length of the text of a sound sheet, and fits
  pub plan-grants : (k : ℕ) → told (Ok k) ≡ text_answer h m u i n room → (sound_of h m u ≡ true) × (k ≡ length (text_in h m u i n)) × (k ≤ room)
  unfolding text_answer
  plan-grants k is = go (sound_of h m u) (bad_range (visible_in h m u) i n) (leb (length (text_in h m u i n)) room) refl is
    where
      refused : (x : ℕ) → 0 < x → told (Ok k) ≡ answer x 0 → ⊥
      refused x l q = omega (arith, l, ap (λ (c : Count). c.refusal) q)

      go : (s b f : Bool) → leb (length (text_in h m u i n)) room ≡ f → told (Ok k) ≡ cond s (cond b (answer 2 0) (cond f (answer 0 (length (text_in h m u i n))) (answer 8 0))) (answer 9 0)
          → (s ≡ true) × (k ≡ length (text_in h m u i n)) × (k ≤ room)
      go false b f l q = absurd (refused 9 (omega arith) q)
      go true true f l q = absurd (refused 2 (omega arith) q)
      go true false false l q = absurd (refused 8 (omega arith) q)
      go true false true l q = let c = ap (λ (c : Count). c.count) q in (refl, c, omega (arith, c, leb-true (length (text_in h m u i n)) room l))

-- a front of what the sheet shows from there on is the text
pub front-text : (h : Head) (m u : List ℕ) (i n k : ℕ) (ys : List ℕ) → k ≡ length (text_in h m u i n)
    → written (showing m u h.first h.items i) k ys ≡ written (text_in h m u i n) k ys
front-text h m u i n k ys e =
    ap (λ (x : List ℕ). x ++ drop k ys)
    (ap (take k) (shows-text h m u i)
    ∙ ap (λ (x : ℕ). take x (drop i (visible_in h m u))) e
    ∙ fit-take n (drop i (visible_in h m u))
    ∙ sym (take_all k (text_in h m u i n) (omega (arith, e))))

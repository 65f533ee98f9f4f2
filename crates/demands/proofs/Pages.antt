-- Units in the stead of their places: a delta reads the same way, and units that are in use never change.
use Prim.Native.Nat.{ℕ, zero, suc, ◌+◌, ◌≤◌, ◌<◌}
use native.Mathlib.Omega.{arith}
use mathlib.Core.Path.{◌≡◌, refl, sym, ap, ap₂, ◌∙◌}
use mathlib.Core.Bool.{true}
use mathlib.Core.List.{List, [], ◌∷◌, ◌++◌, map, map-map, append-nil, append_assoc}
use lib.ListN.{length, get_or, take, drop, length-append, get_or-append}
use lib.Seq.{get_or-take}
use Rattle.std.proofs.Common.{rules, inl, inr}
use Rattle.std.proofs.lemmas.Bool.{cases_eq}
use Rattle.std.proofs.lemmas.List.{take-map, drop-map}
use Rattle.sets.specs.Sets.{Slot, lay, keys}
use Rattle.rules.specs.Sheet.{What, Item}
use Rattle.rules.specs.Sound.{Fits, AllFit}
use Rattle.rules.specs.Reading.{Seen, pass_key, Glyph, units_of, glyphs, Cell, paint, shown, cells, lay_cell, insert, delete, retain, read}
use Rattle.rules.specs.Calls.{Sheet, Call, call}
use Rattle.rules.specs.Rulings.{SoundSheet, brought}
use Rattle.rules.specs.PieceParts.{after as ruled_after}
use Rattle.laws.proofs.Lists.{In, here, there, map-append}
use Rattle.laws.proofs.Calls.{call_cases, call-sound, ruling-units}
use Rattle.laws.proofs.Transaction.{FineCalls}
use Rattle.layout.proofs.Soundness.{sound-parts}
use Rattle.layout.proofs.Models.{used-length, model-sound}
use Rattle.events.specs.Told.{Ops}
use Rattle.demands.specs.Steps.{State, sound, model, Step, after, calls_of}
use Rattle.demands.specs.Written.{spelled, spelled_cell, spelled_op}
use Rattle.demands.proofs.Bridge.{after-sound, after-model}

-- ---- keys
abbrev keys_from : ℕ → ℕ → List ℕ
keys_from k zero = []
keys_from k (suc n) = k ∷ keys_from (suc k) n

key_from : (n k j : ℕ) → k ≤ j → j < k + n → In j (keys_from k n)
key_from zero k j l h = absurd (omega arith)
key_from (suc n) k j l h = elim (cases_eq j k) [ inl e ↦ here e | inr e ↦ there (key_from n (suc k) j (omega arith) (omega arith)) ]

from-below : (n k j : ℕ) → In j (keys_from k n) → j < k + n
from-below zero k j i = elim i [ ]
from-below (suc n) k j (here e) = omega arith
from-below (suc n) k j (there i) = omega (arith, from-below n (suc k) j i)

-- The keys are the numbers below 16.
pub key_in_lem : (j : ℕ) → j < 16 → In j keys
unfolding keys
key_in_lem j l = key_from 16 0 j (omega arith) (omega arith)

pub key_below : (j : ℕ) → In j keys → j < 16
unfolding keys
key_below j i = from-below 16 0 j i

-- ---- reading
module _ (u : List ℕ) where
  pub paint-spelled : (v : ℕ) (gs : List Glyph) → paint v (map (spelled u) gs) ≡ map (spelled_cell u) (paint v gs)
  paint-spelled v [] = refl
  paint-spelled v (g ∷ gs) = grind (rules, paint-spelled v gs)

  lay-spelled : (s : Slot) (cs : List Cell) → map (lay_cell s) (map (spelled_cell u) cs) ≡ map (spelled_cell u) (map (lay_cell s) cs)
  lay-spelled s cs = map-map (lay_cell s) (spelled_cell u) cs ∙ sym (map-map (spelled_cell u) (lay_cell s) cs)

  pub read-spelled : (j : ℕ) (ops : Ops) (cs : List Cell) → read j (map (spelled_op u) ops) (map (spelled_cell u) cs) ≡ map (spelled_cell u) (read j ops cs)
  read-spelled j [] cs = refl
  read-spelled j (insert gs a ∷ ops) cs =
      ap₂ (λ (x y : List Cell). x ++ y) (paint-spelled (lay (a j) 0) gs) (read-spelled j ops cs) ∙ sym (map-append (spelled_cell u) (paint (lay (a j) 0) gs) (read j ops cs))
  read-spelled j (delete n ∷ ops) cs = ap (read j (map (spelled_op u) ops)) (drop-map (spelled_cell u) n cs) ∙ read-spelled j ops (drop n cs)
  read-spelled j (retain n a ∷ ops) cs =
      ap₂ (λ (x y : List Cell). x ++ y)
      (ap (map (lay_cell (a j))) (take-map (spelled_cell u) n cs) ∙ lay-spelled (a j) (take n cs))
      (ap (read j (map (spelled_op u) ops)) (drop-map (spelled_cell u) n cs) ∙ read-spelled j ops (drop n cs))
      ∙ sym (map-append (spelled_cell u) (map (lay_cell (a j)) (take n cs)) (read j ops (drop n cs)))

-- ---- the same units, the same page
module _ (a b : List ℕ) (used : ℕ) (alike : (p : ℕ) → p < used → get_or a p 0 ≡ get_or b p 0) where
  units-alike : (v s n : ℕ) → s + n ≤ used → map (spelled_cell a) (paint v (units_of s n)) ≡ map (spelled_cell b) (paint v (units_of s n))
  units-alike v s zero h = refl
  units-alike v s (suc n) h = grind (rules, arith, alike, units-alike v (suc s) n)

  what-alike : (v : ℕ) (w : What) → Fits used w → map (spelled_cell a) (paint v (glyphs w)) ≡ map (spelled_cell b) (paint v (glyphs w))
  what-alike v w f = grind (rules, units-alike)

  item-alike : (seen : Seen) (i : Item) (v : ℕ) → Fits used i.what → map (spelled_cell a) (shown seen i v) ≡ map (spelled_cell b) (shown seen i v)
  item-alike seen i v f = grind (rules, what-alike)

  pub cells-alike : (seen : Seen) (j v : ℕ) (l : List Item) → AllFit used l → map (spelled_cell a) (cells seen j v l) ≡ map (spelled_cell b) (cells seen j v l)
  cells-alike seen j v [] f = refl
  cells-alike seen j v (i ∷ l) f = grind (rules, map-append, item-alike, cells-alike seen j (pass_key seen j i v) l)

-- ---- units in use stay
record Longer (a b : List ℕ) : Type 0 where
  more : List ℕ
  is : b ≡ a ++ more

calls-longer : (cs : List Call) → FineCalls cs → (s : Sheet) → SoundSheet s → Longer s.units (ruled_after cs s).units
calls-longer [] d s k = record { more = []; is = sym (append-nil s.units) }
calls-longer (c ∷ cs) d s k =
    let one : Longer s.units (call c s).sheet.units =
    call_cases (λ o. Longer s.units o.sheet.units) c s k.within
    (λ n z. record { more = []; is = sym (append-nil s.units) }) (λ e z. record { more = brought c; is = ruling-units c s }) in
    let on = calls-longer cs d.1 (call c s).sheet (call-sound c d.0 s k) in
    record {
      more = one.more ++ on.more;
      is = on.is ∙ ap (λ (x : List ℕ). x ++ on.more) one.is ∙ append_assoc s.units one.more on.more;
    }

pub units-stay : (ts : List Step) → FineCalls (calls_of ts) → (s : State) → sound s ≡ true → (p : ℕ) → p < s.head.units → get_or (after ts s).units p 0 ≡ get_or s.units p 0
units-stay ts d s ok p l =
    let k = after ts s in
    let old = take s.head.units s.units in
    let new = take k.head.units k.units in
    let g = calls-longer (calls_of ts) d (model s) (model-sound s.head s.words s.units (sound-parts s.head s.words s.units ok)) in
    let e : new ≡ old ++ g.more = ap (λ (x : Sheet). x.units) (after-model ts d s ok) ∙ g.is in
    let n = used-length s.head s.words s.units (sound-parts s.head s.words s.units ok) in
    let m = used-length k.head k.words k.units (sound-parts k.head k.words k.units (after-sound ts d s ok)) in
    sym (get_or-take k.head.units k.units p 0 (omega (arith, ap length e, length-append old g.more, n, m)))
    ∙ ap (λ (x : List ℕ). get_or x p 0) e
    ∙ get_or-append old g.more 0 p (omega (arith, n))
    ∙ get_or-take s.head.units s.units p 0 l

-- The texts of an event are the units that its items give anew, one after the other. From the script theorem.
use Prim.Native.Nat.{ℕ, zero, suc, ◌+◌, ◌-◌, ◌≤◌, ◌<◌}
use native.Mathlib.Omega.{arith}
use mathlib.Core.Path.{◌≡◌, refl, sym, ap, ◌∙◌}
use mathlib.Core.Bool.{Bool, true, false, cond}
use mathlib.Core.List.{List, [], ◌∷◌, ◌++◌, append-nil}
use lib.ListN.{length, get_or, take, drop as behind, replicate, length-append}
use lib.Seq.{sets, length-sets, drop-cons}
use Rattle.rules.specs.Sheet.{What, text, embed, mark, Item, width}
use Rattle.rules.specs.Reading.{Glyph, unit, thing, units_of, Op, insert, delete, retain}
use Rattle.rules.specs.Sound.{Fits, AllFit}
use Rattle.rules.specs.Event.{event, finish, ahead, is_plain, Act, keep, drop, give, giving, script, fate, fates, in_units, told_units}
use Rattle.laws.proofs.Script.{event-says}
use Rattle.layout.specs.declared.head.Head.{Head}
use Rattle.layout.specs.Chain.{item_at, next_at, chain, walks}
use Rattle.layout.specs.Memory.{list_of}
use Rattle.layout.proofs.Links.{chain-step, walks_next}
use Rattle.assembling.specs.Steps.{was_by, is_by}
use Rattle.events.specs.Told.{Ops, units_for, texts}
use Rattle.events.specs.Walks.{Walkable, new_glyphs, given_by}
use Rattle.events.proofs.Tellings.{sets-append}
use Rattle.events.proofs.Going.{fit-more, fit_parts}

-- ---- a script's units

abbrev act_units : List ℕ → List Act → List ℕ
act_units u [] = []
act_units u (keep ∷ acts) = act_units u acts
act_units u (drop ∷ acts) = act_units u acts
act_units u (give (unit p) ∷ acts) = get_or u p 0 ∷ act_units u acts
act_units u (give (thing e) ∷ acts) = act_units u acts

act-append : (u : List ℕ) (a b : List Act) → act_units u (a ++ b) ≡ act_units u a ++ act_units u b
act-append u [] b = refl
act-append u (keep ∷ a) b = act-append u a b
act-append u (drop ∷ a) b = act-append u a b
act-append u (give (unit p) ∷ a) b = ap (λ (x : List ℕ). get_or u p 0 ∷ x) (act-append u a b)
act-append u (give (thing e) ∷ a) b = act-append u a b

act-giving : (u : List ℕ) (gs : List Glyph) → act_units u (giving gs) ≡ units_for u gs
act-giving u [] = refl
act-giving u (unit p ∷ gs) = ap (λ (x : List ℕ). get_or u p 0 ∷ x) (act-giving u gs)
act-giving u (thing e ∷ gs) = act-giving u gs

act-keeps : (u : List ℕ) (n : ℕ) → act_units u (replicate n keep) ≡ []
act-keeps u zero = refl
act-keeps u (suc n) = act-keeps u n

act_drops : (u : List ℕ) (n : ℕ) → act_units u (replicate n drop) ≡ []
act_drops u zero = refl
act_drops u (suc n) = act_drops u n

texts-script : (u : List ℕ) (ops : Ops) → act_units u (script ops) ≡ texts u ops
unfolding texts
texts-script u [] = refl
texts-script u (insert gs a ∷ ops) = act-append u (giving gs) (script ops) ∙ ap (λ (x : List ℕ). x ++ act_units u (script ops)) (act-giving u gs) ∙ ap (λ (x : List ℕ). units_for u gs ++ x) (texts-script u ops)
texts-script u (delete n ∷ ops) = act-append u (replicate n drop) (script ops) ∙ ap (λ (x : List ℕ). x ++ act_units u (script ops)) (act_drops u n) ∙ texts-script u ops
texts-script u (retain n a ∷ ops) = act-append u (replicate n keep) (script ops) ∙ ap (λ (x : List ℕ). x ++ act_units u (script ops)) (act-keeps u n) ∙ texts-script u ops

-- ---- what the items give

for-append : (u : List ℕ) (a b : List Glyph) → units_for u (a ++ b) ≡ units_for u a ++ units_for u b
for-append u [] b = refl
for-append u (unit p ∷ a) b = ap (λ (x : List ℕ). get_or u p 0 ∷ x) (for-append u a b)
for-append u (thing e ∷ a) b = for-append u a b

fate-gives : (u : List ℕ) (was now : Bool) (w : What) → act_units u (fate was now w) ≡ units_for u (new_glyphs was now w)
fate-gives u false false w = refl
fate-gives u false true (text s n) = act-giving u (units_of s n)
fate-gives u false true (embed e) = refl
fate-gives u false true (mark k v) = refl
fate-gives u true false w = act_drops u (width w)
fate-gives u true true w = act-keeps u (width w)

fates-give : (u : List ℕ) (back : Bool) (l : List Item) → act_units u (fates (was_by back) (is_by back) l) ≡ units_for u (given_by back l)
unfolding given_by
fates-give u back [] = refl
fates-give u back (i ∷ l) =
    let was = was_by back i.flags in
    let now = is_by back i.flags in
    act-append u (fate was now i.what) (fates (was_by back) (is_by back) l)
    ∙ ap (λ (x : List ℕ). x ++ act_units u (fates (was_by back) (is_by back) l)) (fate-gives u was now i.what)
    ∙ ap (λ (x : List ℕ). units_for u (new_glyphs was now i.what) ++ x) (fates-give u back l)
    ∙ sym (for-append u (new_glyphs was now i.what) (given_by back l))

pub texts-given : (u : List ℕ) (back : Bool) (l : List Item) → units_for u (given_by back l) ≡ texts u (event (was_by back) (is_by back) l)
texts-given u back l =
    let ops = event (was_by back) (is_by back) l in
    let s = event-says (was_by back) (is_by back) l in
    sym (fates-give u back l) ∙ ap (act_units u) (sym s.same) ∙ act-append u (script ops) (replicate s.keeps keep)
    ∙ ap (λ (x : List ℕ). act_units u (script ops) ++ x) (act-keeps u s.keeps) ∙ append-nil (act_units u (script ops)) ∙ texts-script u ops

-- ---- counts

pub length_for : (u : List ℕ) (gs : List Glyph) → length (units_for u gs) ≡ in_units gs
length_for u [] = refl
length_for u (unit p ∷ gs) = ap suc (length_for u gs)
length_for u (thing e ∷ gs) = length_for u gs

pub length-texts : (u : List ℕ) (ops : Ops) → length (texts u ops) ≡ told_units ops
unfolding texts
length-texts u [] = refl
length-texts u (insert gs a ∷ ops) = omega (arith, length-append (units_for u gs) (texts u ops), length_for u gs, length-texts u ops)
length-texts u (delete n ∷ ops) = length-texts u ops
length-texts u (retain n a ∷ ops) = length-texts u ops

ahead-units : (op : Op (List Glyph)) (f : Ops) → told_units (ahead op f) ≡ told_units (op ∷ f)
ahead-units op (o ∷ f) = refl
ahead-units (insert gs a) [] = refl
ahead-units (delete n) [] = refl
ahead-units (retain n a) [] = go (is_plain (retain n a))
  where
    go : (b : Bool) → told_units (cond b [] (retain n a ∷ [])) ≡ 0
    go true = refl
    go false = refl

on-units : (op : Op (List Glyph)) (a b : Ops) → told_units a ≡ told_units b → told_units (op ∷ a) ≡ told_units (op ∷ b)
on-units (insert gs s) a b h = ap (λ (x : ℕ). in_units gs + x) h
on-units (delete n) a b h = h
on-units (retain n s) a b h = h

-- a dropped Retain tells no unit
pub finish-units : (ops : Ops) → told_units (finish ops) ≡ told_units ops
finish-units [] = refl
finish-units (op ∷ ops) = ahead-units op (finish ops) ∙ on-units op (finish ops) ops (finish-units ops)

-- ---- the copy

-- a part of the units, unit by unit
pub part_units : (u : List ℕ) (s n : ℕ) → s + n ≤ length u → units_for u (units_of s n) ≡ take n (behind s u)
part_units u s zero h = refl
part_units u s (suc n) h =
    let e : suc s ≡ s + 1 = omega arith in
    let first : behind s u ≡ get_or u s 0 ∷ behind (suc s) u = drop-cons u s 0 (omega arith) in
    ap (λ (x : List ℕ). get_or u s 0 ∷ x) (part_units u (suc s) n (omega arith)) ∙ ap (take (suc n)) (sym first)

-- ---- one item more

-- the text that the item of number s gives anew
abbrev pub here : List ℕ → Bool → List ℕ → ℕ → List ℕ
here u back m s = units_for u (new_glyphs (was_by back (item_at m s).flags) (is_by back (item_at m s).flags) (item_at m s).what)

module _ (u : List ℕ) (back : Bool) (k : ℕ) (m : List ℕ) (s : ℕ) (z : 0 < k) where
  abbrev later : List ℕ
  later = units_for u (given_by back (chain (k - 1) m (next_at m s)))

  given-step : units_for u (given_by back (chain k m s)) ≡ here u back m s ++ later
  unfolding given_by
  given-step =
      ap (λ (l : List Item). units_for u (given_by back l)) (chain-step k m s z)
      ∙ for-append u (new_glyphs (was_by back (item_at m s).flags) (is_by back (item_at m s).flags) (item_at m s).what) (given_by back (chain (k - 1) m (next_at m s)))

  pub fill-length : length (units_for u (given_by back (chain k m s))) ≡ length (here u back m s) + length later
  fill-length = ap length given-step ∙ length-append (here u back m s) later

  pub fill-turn : (out : List ℕ) (n : ℕ) → sets out n (units_for u (given_by back (chain k m s))) ≡ sets (sets out n (here u back m s)) (n + length (here u back m s)) later
  fill-turn out n = ap (sets out n) given-step ∙ sets-append out n (here u back m s) later

pub fill_end : (u : List ℕ) (back : Bool) (k : ℕ) (m : List ℕ) (s : ℕ) (out : List ℕ) (n : ℕ) → k ≤ 0 → sets out n (units_for u (given_by back (chain k m s))) ≡ out
unfolding chain given_by
fill_end u back zero m s out n h = refl
fill_end u back (suc k) m s out n h = absurd (omega arith)

-- ---- the loop over the items

pub record Filling (back : Bool) (m u out₀ out : List ℕ) (n at k at₀ k₀ : ℕ) : Type 0 where
  pub few : k ≤ k₀
  pub most : k₀ ≤ 2048
  pub walk : walks k₀ k m at ≡ true
  pub fit : AllFit (length u) (chain k m at)
  pub long : length out ≡ length out₀
  pub room : n + length (units_for u (given_by back (chain k m at))) ≤ length out₀
  pub whole : sets out n (units_for u (given_by back (chain k m at))) ≡ sets out₀ 0 (units_for u (given_by back (chain k₀ m at₀)))

pub filling-start : (back : Bool) (h : Head) (m u out : List ℕ) → Walkable h m → h.units ≤ length u → length (units_for u (given_by back (list_of h m))) ≤ length out
    → Filling back m u out out 0 h.first h.items h.first h.items
filling-start back h m u out q l r = record {
  few = omega arith;
  most = q.items;
  walk = q.walk;
  fit = fit-more h.units (length u) (list_of h m) l q.fit;
  long = refl;
  room = omega arith;
  whole = refl;
}

module _ (back : Bool) (m u out₀ out : List ℕ) (n at k at₀ k₀ : ℕ) (g : Filling back m u out₀ out n at k at₀ k₀) (z : 0 < k) where
  pub text-fits : Fits (length u) (item_at m at).what
  text-fits = (fit_parts (length u) k m at z g.fit).0

  -- the text of the turn fits
  pub text-here : (t : List ℕ) → t ≡ here u back m at → n + length t ≤ length out
  text-here t e = omega (arith, ap length e, g.room, g.long, fill-length u back k m at z)

  pub filling_step : (t out₁ : List ℕ) → t ≡ here u back m at → out₁ ≡ sets out n t → Filling back m u out₀ out₁ (n + length t) (next_at m at) (k - 1) at₀ k₀
  filling_step t out₁ e eo = record {
    few = omega (arith, g.few);
    most = g.most;
    walk = walks_next k₀ k m at z g.walk;
    fit = (fit_parts (length u) k m at z g.fit).1;
    long = ap length eo ∙ length-sets out n t ∙ g.long;
    room = omega (arith, ap length e, g.room, fill-length u back k m at z);
    whole = rw (eo, e) (sym (fill-turn u back k m at z out n) ∙ g.whole);
  }

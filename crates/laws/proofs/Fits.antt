-- The units that an event inserts are units that are seen now and were not before, so no more than the texts hold:
-- 2,048 operations and 16,384 units hold every event of a sound sheet.
use Prim.Native.Nat.{ℕ, zero, suc, ◌+◌, ◌≤◌}
use mathlib.Core.Path.{◌≡◌, refl, sym, ap, ◌∙◌}
use mathlib.Core.Bool.{Bool, true, false, cond, not, ◌&&◌}
use mathlib.Core.List.{List, [], ◌∷◌, ◌++◌}
use native.Mathlib.Nat.{zero-add, suc-add}
use native.Mathlib.Omega.{arith}
use lib.ListN.{length}
use Rattle.rules.specs.Sheet.{What, text, embed, mark, Item, is_mark}
use Rattle.rules.specs.Reading.{Seen, Glyph, unit, thing, units_of, glyphs, Op, insert, delete, retain}
use Rattle.rules.specs.Sound.{held, SoundList}
use Rattle.rules.specs.Event.{event, script, carriers, in_units, told_units}
use Rattle.rules.specs.Scripts.{seen_by, given}
use Rattle.laws.proofs.Script.{event-length}
use Rattle.laws.proofs.Told.{given-giving, given-keeps, given_drops, event-tells}

pub in-append : (a b : List Glyph) → in_units (a ++ b) ≡ in_units a + in_units b
in-append [] b = sym (zero-add (in_units b))
in-append (unit p ∷ a) b = ap suc (in-append a b) ∙ sym (suc-add (in_units a) (in_units b))
in-append (thing e ∷ a) b = in-append a b

pub in-units : (s n : ℕ) → in_units (units_of s n) ≡ n
in-units s zero = refl
in-units s (suc n) = ap suc (in-units (suc s) n)

-- the units of an event's texts are those that its script gives
told-given : (ops : List (Op (List Glyph))) → told_units ops ≡ in_units (given (script ops))
told-given [] = refl
told-given (insert gs a ∷ ops) = ap (λ (n : ℕ). in_units gs + n) (told-given ops) ∙ sym (in-append gs (given (script ops))) ∙ ap in_units (sym (given-giving gs (script ops)))
told-given (delete n ∷ ops) = told-given ops ∙ ap in_units (sym (given_drops n (script ops)))
told-given (retain n a ∷ ops) = told-given ops ∙ ap in_units (sym (given-keeps n (script ops)))

-- no reading sees more units than the texts hold
seen-held : (f : Seen) (l : List Item) → in_units (seen_by f l) ≤ held l
seen-held f [] = omega arith
seen-held f (i ∷ l) = go (f i.flags) i.what (seen-held f l)
  where
    go : (b : Bool) (w : What) → in_units (seen_by f l) ≤ held l → in_units (cond b (glyphs w) [] ++ seen_by f l) ≤ elim w [ text s n ↦ n | embed e ↦ 0 | mark k v ↦ 0 ] + held l
    go false w h = omega arith
    go true (text s n) h = omega (arith, in-append (units_of s n) (seen_by f l), in-units s n)
    go true (embed e) h = omega arith
    go true (mark k v) h = omega arith

pub event-units : (was now : Seen) (l : List Item) → told_units (event was now l) ≤ held l
event-units was now l = omega (arith, told-given (event was now l) ∙ ap in_units (event-tells was now l).news, seen-held (λ f. not (was f) && now f) l)

-- on a sound sheet: no more than are used
pub event-used : (was now : Seen) (l : List Item) (next used : ℕ) → SoundList l next used → told_units (event was now l) ≤ used
event-used was now l next used s = omega (arith, event-units was now l, s.whole)

carriers-length : (l : List Item) → carriers l ≤ length l
carriers-length [] = omega arith
carriers-length (i ∷ l) = go (is_mark i.what) (carriers-length l)
  where
    go : (b : Bool) → carriers l ≤ length l → cond b 0 1 + carriers l ≤ suc (length l)
    go true h = omega arith
    go false h = omega arith

pub record Holds (l : List Item) (ops units : ℕ) : Type 0 where
  pub operations : ops ≤ 2048
  pub texts : units ≤ 16384

-- on a sound sheet within the limits
pub event-fits : (was now : Seen) (l : List Item) (next used : ℕ) → SoundList l next used → next ≤ 2048 → used ≤ 16384
    → Holds l (length (event was now l)) (told_units (event was now l))
event-fits was now l next used s h h' = record {
  operations = omega (arith, event-length was now l, carriers-length l, s.count);
  texts = omega (arith, event-used was now l next used s);
}

-- The event between any two readings drops exactly the old units that are no longer seen, keeps all others, and gives exactly the new ones.
use Prim.Native.Nat.{ℕ, zero, suc}
use mathlib.Core.Path.{◌≡◌, refl, sym, ap, ◌∙◌}
use mathlib.Core.Bool.{Bool, true, false, cond, not, ◌&&◌}
use mathlib.Core.List.{List, [], ◌∷◌, ◌++◌, append-nil}
use native.Mathlib.Omega.{arith}
use lib.ListN.{length, replicate}
use Rattle.rules.specs.Sheet.{What, Item, width}
use Rattle.rules.specs.Reading.{Seen, Glyph, glyphs}
use Rattle.rules.specs.Event.{event, Act, keep, drop, give, giving, script, fate, fates}
use Rattle.rules.specs.Scripts.{seen_by, Fate, fated, fates_over, given, old_units, new_units, UpToKeeps, Tells}
use Rattle.laws.proofs.Lists.{length-glyphs}
use Rattle.laws.proofs.Script.{event-says}

-- what one item says
over-giving : (hs : List Glyph) (acts : List Act) (gs : List Glyph) → fates_over (giving hs ++ acts) gs ≡ fates_over acts gs
over-giving [] acts gs = refl
over-giving (h ∷ hs) acts gs = over-giving hs acts gs

-- keep or drop
abbrev taking : Bool → Act
taking b = cond b keep drop

over_taking : (b : Bool) (n : ℕ) (hs : List Glyph) (acts : List Act) (gs : List Glyph) → length hs ≡ n → fates_over (replicate n (taking b) ++ acts) (hs ++ gs) ≡ fated b hs ++ fates_over acts gs
over_taking b zero [] acts gs e = refl
over_taking b zero (h ∷ hs) acts gs e = absurd (omega arith)
over_taking b (suc n) [] acts gs e = absurd (omega arith)
over_taking b (suc n) (h ∷ hs) acts gs e = one b ∙ ap (λ (x : List Fate). record { glyph = h; stays = b } ∷ x) (over_taking b n hs acts gs (omega arith))
  where
    one : (b : Bool) → fates_over (taking b ∷ replicate n (taking b) ++ acts) (h ∷ (hs ++ gs)) ≡ record { glyph = h; stays = b } ∷ fates_over (replicate n (taking b) ++ acts) (hs ++ gs)
    one true = refl
    one false = refl

over-item : (was now : Bool) (w : What) (acts : List Act) (gs : List Glyph) → fates_over (fate was now w ++ acts) (cond was (glyphs w) [] ++ gs) ≡ cond was (fated now (glyphs w)) [] ++ fates_over acts gs
over-item false false w acts gs = refl
over-item false true w acts gs = over-giving (glyphs w) acts gs
over-item true false w acts gs = over_taking false (width w) (glyphs w) acts gs (length-glyphs w)
over-item true true w acts gs = over_taking true (width w) (glyphs w) acts gs (length-glyphs w)

over_all : (was now : Seen) (l : List Item) → fates_over (fates was now l) (seen_by was l) ≡ old_units was now l
over_all was now [] = refl
over_all was now (i ∷ l) =
    over-item (was i.flags) (now i.flags) i.what (fates was now l) (seen_by was l)
    ∙ ap (λ (x : List Fate). cond (was i.flags) (fated (now i.flags) (glyphs i.what)) [] ++ x) (over_all was now l)

pub given-giving : (hs : List Glyph) (acts : List Act) → given (giving hs ++ acts) ≡ hs ++ given acts
given-giving [] acts = refl
given-giving (h ∷ hs) acts = ap (λ (x : List Glyph). h ∷ x) (given-giving hs acts)

pub given-keeps : (n : ℕ) (acts : List Act) → given (replicate n keep ++ acts) ≡ given acts
given-keeps zero acts = refl
given-keeps (suc n) acts = given-keeps n acts

pub given_drops : (n : ℕ) (acts : List Act) → given (replicate n drop ++ acts) ≡ given acts
given_drops zero acts = refl
given_drops (suc n) acts = given_drops n acts

given-item : (was now : Bool) (w : What) (acts : List Act) → given (fate was now w ++ acts) ≡ cond (not was && now) (glyphs w) [] ++ given acts
given-item false false w acts = refl
given-item false true w acts = given-giving (glyphs w) acts
given-item true false w acts = given_drops (width w) acts
given-item true true w acts = given-keeps (width w) acts

given_all : (was now : Seen) (l : List Item) → given (fates was now l) ≡ new_units was now l
given_all was now [] = refl
given_all was now (i ∷ l) = given-item (was i.flags) (now i.flags) i.what (fates was now l) ∙ ap (λ (x : List Glyph). cond (not (was i.flags) && now i.flags) (glyphs i.what) [] ++ x) (given_all was now l)

-- keeps at the end change nothing
more-keeps : (acts : List Act) (n : ℕ) (gs : List Glyph) → fates_over (acts ++ replicate n keep) gs ≡ fates_over acts gs
more-keeps [] zero gs = refl
more-keeps [] (suc n) [] = refl
more-keeps [] (suc n) (g ∷ gs) = ap (λ (x : List Fate). record { glyph = g; stays = true } ∷ x) (more-keeps [] n gs)
more-keeps (keep ∷ acts) n [] = refl
more-keeps (keep ∷ acts) n (g ∷ gs) = ap (λ (x : List Fate). record { glyph = g; stays = true } ∷ x) (more-keeps acts n gs)
more-keeps (drop ∷ acts) n [] = refl
more-keeps (drop ∷ acts) n (g ∷ gs) = ap (λ (x : List Fate). record { glyph = g; stays = false } ∷ x) (more-keeps acts n gs)
more-keeps (give x ∷ acts) n gs = more-keeps acts n gs

given-more : (acts : List Act) (n : ℕ) → given (acts ++ replicate n keep) ≡ given acts
given-more [] n = ap given (sym (append-nil (replicate n keep))) ∙ given-keeps n []
given-more (keep ∷ acts) n = given-more acts n
given-more (drop ∷ acts) n = given-more acts n
given-more (give g ∷ acts) n = ap (λ (x : List Glyph). g ∷ x) (given-more acts n)

-- Between any two readings.
pub event-tells : (was now : Seen) (l : List Item) → Tells was now l (seen_by was l)
event-tells was now l = record {
  acts = e;
  olds = sym (more-keeps ev e.keeps (seen_by was l)) ∙ ap (λ (x : List Act). fates_over x (seen_by was l)) e.same ∙ over_all was now l;
  news = sym (given-more ev e.keeps) ∙ ap given e.same ∙ given_all was now l;
}
  where
    ev : List Act
    ev = script (event was now l)

    e : UpToKeeps ev (fates was now l)
    e = event-says was now l

-- Joining from the right is joining as one reads: a run that is put ahead of a run that was put ahead. Assumes nothing.
use Prim.Native.Nat.{ℕ}
use mathlib.Core.Path.{◌≡◌, refl, sym, ap, ◌∙◌}
use mathlib.Core.Bool.{Bool, true, false, cond, ◌&&◌}
use mathlib.Core.List.{List, [], ◌∷◌, ◌++◌, append_assoc, append-nil}
use lib.Dec.{eqb}
use borrow.Author.Tests.{eqb-true, eq-eqb}
use Rattle.sets.specs.Sets.{Env, keys, same_force}
use Rattle.rules.specs.Sheet.{What, text, embed, mark, Item}
use Rattle.rules.specs.Reading.{Glyph, units_of}
use Rattle.laws.proofs.Lists.{and_left, and_right}
use Rattle.rules.specs.Runs.{Chunk, words, object, Run, runs_from, is_text, mergeable, merged, ahead, joined}

-- ---- what is the same in force

-- what is the same as e is the same as what e is the same as
same-right : (ks : List ℕ) (d e f : Env) → same_force ks e f ≡ true → same_force ks d f ≡ same_force ks d e
same-right [] d e f h = refl
same-right (k ∷ ks) d e f h =
    let q : e k ≡ f k = eqb-true (e k) (f k) (and_left (eqb (e k) (f k)) (same_force ks e f) h) in
    ap (λ (x : ℕ). eqb (d k) x && same_force ks d f) (sym q) ∙ ap (λ (b : Bool). eqb (d k) (e k) && b) (same-right ks d e f (and_right (eqb (e k) (f k)) (same_force ks e f) h))

pub same_refl : (ks : List ℕ) (e : Env) → same_force ks e e ≡ true
same_refl [] e = refl
same_refl (k ∷ ks) e = ap (λ (b : Bool). b && same_force ks e e) (eq-eqb (e k) (e k) refl) ∙ same_refl ks e

-- ---- ahead of ahead

abbrev pub stretch : List Glyph → Env → Run
stretch gs e = record { chunk = words gs; force = e }

-- a text, a run, and what follows it
pub ahead-ahead : (gs : List Glyph) (e : Env) (s : Run) (rs : List Run)
    → ahead (stretch gs e) (ahead s rs)
    ≡ cond (mergeable (stretch gs e) s) (ahead (merged (stretch gs e) s) rs) (stretch gs e ∷ ahead s rs)
ahead-ahead gs e s [] = refl
ahead-ahead gs e s (t ∷ rs) = go s.chunk t.chunk s.force t.force (same_force keys s.force t.force) refl
  where
    r : Run
    r = stretch gs e

    go : (x y : Chunk) (f g : Env) (b : Bool) → same_force keys f g ≡ b
        → ahead (stretch gs e) (cond (is_text x && is_text y && b) (merged (record { chunk = x; force = f }) (record { chunk = y; force = g }) ∷ rs) (record { chunk = x; force = f } ∷ record { chunk = y; force = g } ∷ rs))
        ≡ cond (mergeable (stretch gs e) (record { chunk = x; force = f }))
        (cond (is_text y && b) (merged (merged (stretch gs e) (record { chunk = x; force = f })) (record { chunk = y; force = g }) ∷ rs) (merged (stretch gs e) (record { chunk = x; force = f }) ∷ record { chunk = y; force = g } ∷ rs))
        (stretch gs e ∷ cond (is_text x && is_text y && b) (merged (record { chunk = x; force = f }) (record { chunk = y; force = g }) ∷ rs) (record { chunk = x; force = f } ∷ record { chunk = y; force = g } ∷ rs))
    go (words a) (words c) f g true q =
        ap (λ (b : Bool). cond b (stretch (gs ++ (a ++ c)) g ∷ rs) (stretch gs e ∷ stretch (a ++ c) g ∷ rs)) (same-right keys e f g q)
        ∙ ap (λ (l : List Glyph). cond (same_force keys e f) (stretch l g ∷ rs) (stretch gs e ∷ stretch (a ++ c) g ∷ rs)) (sym (append_assoc gs a c))
    go (words a) (words c) f g false q = refl
    go (words a) (object n) f g b q = refl
    go (object n) y f g b q = refl

-- an open text run is put ahead of what follows it
pub open-ahead : (g : Glyph) (gs : List Glyph) (e : Env) (l : List Item)
    → joined (runs_from (g ∷ gs) e l) ≡ ahead (stretch (g ∷ gs) e) (joined (runs_from [] e l))
open-ahead g gs e [] = refl
open-ahead g gs e (i ∷ l) = go i.what i.flags.dead (λ h hs. open-ahead h hs e l)
  where
    item : What → Bool → Item
    item w d = record { num = i.num; what = w; flags = record { dead = d; added = i.flags.added; gone = i.flags.gone } }

    more : (a : List Glyph) → ((h : Glyph) (hs : List Glyph) → joined (runs_from (h ∷ hs) e l) ≡ ahead (stretch (h ∷ hs) e) (joined (runs_from [] e l)))
        → joined (runs_from ((g ∷ gs) ++ a) e l) ≡ ahead (stretch (g ∷ gs) e) (joined (runs_from a e l))
    more [] ih = ap (λ (z : List Glyph). joined (runs_from z e l)) (append-nil (g ∷ gs)) ∙ ih g gs
    more (h ∷ hs) ih =
        ih g (gs ++ (h ∷ hs))
        ∙ sym (ap (ahead (stretch (g ∷ gs) e)) (ih h hs)
        ∙ ahead-ahead (g ∷ gs) e (stretch (h ∷ hs) e) (joined (runs_from [] e l))
        ∙ ap (λ (b : Bool). cond b (ahead (stretch ((g ∷ gs) ++ (h ∷ hs)) e) (joined (runs_from [] e l))) (stretch (g ∷ gs) e ∷ ahead (stretch (h ∷ hs) e) (joined (runs_from [] e l)))) (same_refl keys e))

    go : (w : What) (d : Bool) → ((h : Glyph) (hs : List Glyph) → joined (runs_from (h ∷ hs) e l) ≡ ahead (stretch (h ∷ hs) e) (joined (runs_from [] e l)))
        → joined (runs_from (g ∷ gs) e (item w d ∷ l)) ≡ ahead (stretch (g ∷ gs) e) (joined (runs_from [] e (item w d ∷ l)))
    go w true ih = ih g gs
    go (text s n) false ih = more (units_of s n) ih
    go (embed x) false ih = refl
    go (mark k v) false ih = refl

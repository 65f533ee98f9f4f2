-- The runs that a sheet in memory hands out show what is seen, and joined ones cannot be joined further. Assumes nothing.
use Prim.Native.Nat.{ℕ, suc, ◌+◌, ◌<◌}
use Rattle.std.proofs.Common.{rules}
use native.Mathlib.Omega.{arith}
use mathlib.Core.Path.{◌≡◌, refl, sym, ap, ap₂, subst, ◌∙◌}
use mathlib.Core.Bool.{Bool, true}
use mathlib.Core.List.{List, [], ◌∷◌, ◌++◌, map, append_assoc}
use lib.ListN.{length, take, drop, length-append, length-map, drop_of_length-le}
use lib.Seq.{take-append_seam, drop_at}
use Rattle.std.proofs.lemmas.Bool.{not-false}
use Rattle.sets.specs.Sets.{Set, keys, present}
use Rattle.attrs.specs.Packed.{says, packed}
use Rattle.attrs.proofs.Says.{says-packed}
use Rattle.attrs.proofs.Force.{env_in}
use Rattle.rules.specs.Sheet.{Item}
use Rattle.rules.specs.Reading.{live, Glyph, Cell, paint, cells, seen_glyphs}
use Rattle.rules.specs.Runs.{Chunk, words, object, Run as Stretch, runs, is_text, glyphs_of, joined}
use Rattle.laws.proofs.Lists.{map-append}
use Rattle.laws.proofs.Cuts.{glyphs_in, in_cells, in-paint}
use Rattle.laws.proofs.Runs.{run_cells, runs-cells, joined-cells, Maximal, none_left, one_left, apart, joined_maximal, apart_differ}
use Rattle.std.specs.Prelude.{Ok}
use Rattle.cursors.specs.declared.run.Run.{Run}
use Rattle.cursors.specs.declared.walk.Runs.{Runs}
use Rattle.cursors.specs.Records.{len_of, record_of, records_of, runs_by}
use Rattle.cursors.specs.Cursors.{left}
use Rattle.runs.specs.Answers.{Count, records_in, answer, counted, Said, first, run_at, Begun}
use Rattle.demands.specs.Steps.{State, sound, model}
use Rattle.demands.specs.Written.{spelled, spelled_cell}
use Rattle.demands.specs.Listing.{runs_read, all_runs, run_glyphs, runs_show, visible_of, Apart, Counted, Listed}
use Rattle.demands.proofs.Pages.{key_in_lem, key_below, paint-spelled}

-- ---- what is handed out
module _ (s : State) (ok : sound s ≡ true) (b : Bool) where
  abbrev rs : List Run
  rs = records_in s.head s.words b

  counted_is : counted s.head s.words s.units b ≡ answer 0 (length rs)
  unfolding counted
  counted_is = rw ok

  at-is : (n : ℕ) → run_at s.head s.words s.units b n ≡ first (drop n rs)
  unfolding run_at
  at-is n = rw ok

  -- run by run
  read-on : (xs pre : List Run) → pre ++ xs ≡ rs → runs_read s b (length pre) (length xs) ≡ xs
  read-on [] pre e = refl
  read-on (x ∷ xs) pre e =
      let d : drop (length pre) rs ≡ x ∷ xs = ap (drop (length pre)) (sym e) ∙ drop_at pre (x ∷ xs) (length pre) refl in
      let n : length (pre ++ (x ∷ [])) ≡ suc (length pre) = omega (arith, length-append pre (x ∷ [])) in
      ap₂ (λ (y : Run) (ys : List Run). y ∷ ys)
      (ap (λ (z : Said). z.run) (at-is (length pre) ∙ ap first d))
      (sym (ap (λ (k : ℕ). runs_read s b k (length xs)) n) ∙ read-on xs (pre ++ (x ∷ [])) (append_assoc pre (x ∷ []) xs ∙ e))

  pub all_read : all_runs s b ≡ rs
  all_read = ap (runs_read s b 0) (ap (λ (z : Count). z.count) counted_is) ∙ read-on rs [] refl

-- ---- what the records show
abbrev pub all_glyphs : List Stretch → List Glyph
all_glyphs [] = []
all_glyphs (r ∷ rs) = glyphs_of r.chunk ++ all_glyphs rs

cells-glyphs : (j : ℕ) (rs : List Stretch) → glyphs_in (run_cells j rs) ≡ all_glyphs rs
cells-glyphs j [] = refl
cells-glyphs j (r ∷ rs) = grind (rules, in-paint, cells-glyphs j rs)

len-glyphs : (c : Chunk) → length (glyphs_of c) ≡ len_of c
len-glyphs c = grind rules

module _ (u : List ℕ) where
  -- Each record stands for the units of its run.
  abbrev pub Stand : List Glyph → ℕ → List Stretch → Type 0
  Stand gs n [] = Unit {0}
  Stand gs n (r ∷ rs) = (run_glyphs gs (record_of n r) ≡ map (spelled u) (glyphs_of r.chunk)) × Stand gs (n + len_of r.chunk) rs

  one-stands : (r : Stretch) (pre rest : List Glyph) (n : ℕ) → length pre ≡ n → run_glyphs (pre ++ (map (spelled u) (glyphs_of r.chunk) ++ rest)) (record_of n r) ≡ map (spelled u) (glyphs_of r.chunk)
  one-stands r pre rest n e = go r.chunk
    where
      go : (c : Chunk) → run_glyphs (pre ++ (map (spelled u) (glyphs_of c) ++ rest)) (record_of n (record { chunk = c; force = r.force })) ≡ map (spelled u) (glyphs_of c)
      go (words gs) =
          ap (take (length gs)) (drop_at pre (map (spelled u) gs ++ rest) n e)
          ∙ ap (λ (k : ℕ). take k (map (spelled u) gs ++ rest)) (sym (length-map gs (spelled u))) ∙ take-append_seam (map (spelled u) gs) rest
      go (object x) = refl

  all-stand : (rs : List Stretch) (pre : List Glyph) (n : ℕ) → length pre ≡ n → Stand (pre ++ map (spelled u) (all_glyphs rs)) n rs
  all-stand [] pre n e = tt
  all-stand (r ∷ rs) pre n e =
      let f = spelled u in
      let gs = glyphs_of r.chunk in
      let rest = map f (all_glyphs rs) in
      let a : pre ++ map f (gs ++ all_glyphs rs) ≡ pre ++ (map f gs ++ rest) = ap (λ (x : List Glyph). pre ++ x) (map-append f gs (all_glyphs rs)) in
      let m : length (pre ++ map f gs) ≡ n + len_of r.chunk = omega (arith, length-append pre (map f gs), length-map gs f, len-glyphs r.chunk) in (
        ap (λ (x : List Glyph). run_glyphs x (record_of n r)) a ∙ one-stands r pre rest n e,
        subst (λ (x : List Glyph). Stand x (n + len_of r.chunk) rs) (append_assoc pre (map f gs) rest ∙ sym a) (all-stand rs (pre ++ map f gs) (n + len_of r.chunk) m),
      )

  records-show : (j : ℕ) → j < 16 → (gs : List Glyph) (n : ℕ) (rs : List Stretch) → Stand gs n rs → runs_show j gs (records_of n rs) ≡ map (spelled_cell u) (run_cells j rs)
  unfolding records_of
  records-show j l gs n [] h = refl
  records-show j l gs n (r ∷ rs) h =
      ap₂ (λ (x y : List Cell). x ++ y) (ap₂ paint (env_in r.force j l) h.0 ∙ paint-spelled u (r.force j) (glyphs_of r.chunk)) (records-show j l gs (n + len_of r.chunk) rs h.1)
      ∙ sym (map-append (spelled_cell u) (paint (r.force j) (glyphs_of r.chunk)) (run_cells j rs))

-- plain or joined, the cells are the list's
by-cells : (b : Bool) (j : ℕ) → j < 16 → (l : List Item) → run_cells j (runs_by b (runs l)) ≡ cells live j 0 l
unfolding runs_by
by-cells b j h l = grind (rules, runs-cells, joined-cells, key_in_lem)

pub by-glyphs : (b : Bool) (l : List Item) → all_glyphs (runs_by b (runs l)) ≡ seen_glyphs l
by-glyphs b l = sym (cells-glyphs 0 (runs_by b (runs l))) ∙ ap glyphs_in (by-cells b 0 (omega arith) l) ∙ in_cells 0 0 l

-- The visible text of a list has room for the records of its runs, each where it stands.
pub runs_stand : (u : List ℕ) (b : Bool) (l : List Item) → Stand u (map (spelled u) (seen_glyphs l)) 0 (runs_by b (runs l))
runs_stand u b l = subst (λ (x : List Glyph). Stand u (map (spelled u) x) 0 (runs_by b (runs l))) (by-glyphs b l) (all-stand u (runs_by b (runs l)) [] 0 refl)

-- ---- keys counted, and neighbours apart
-- a packed set has the keys that it was packed from
present_in : (a : Set) → present keys (says (packed a)) ≡ present keys a
unfolding keys
present_in a = ap (present keys) (says-packed a)

records-counted : (n : ℕ) (rs : List Stretch) → Counted (records_of n rs)
unfolding records_of
records-counted n [] = tt
records-counted n (r ∷ rs) = grind (rules, present_in, records-counted (n + len_of r.chunk) rs)

records-apart : (n : ℕ) {rs : List Stretch} → Maximal rs → Apart (records_of n rs)
unfolding records_of
records-apart n none_left = tt
records-apart n one_left = tt
records-apart n (apart {r = r} {s = s} q m) = (
  λ e f. let d = apart_differ r s q (not-false (is_text r.chunk) e) (not-false (is_text s.chunk) f) in
      let l = key_below d.0 d.1 in
      (d.0, l, λ z. d.2 (sym (env_in r.force d.0 l) ∙ z ∙ env_in s.force d.0 l)),
  records-apart (n + len_of r.chunk) m,
)

by_apart : (b : Bool) → b ≡ true → (rs : List Stretch) → Maximal (joined rs) → Apart (records_of 0 (runs_by b rs))
unfolding runs_by
by_apart b e r m = grind (rules, records-apart)

-- The runs of a sound sheet in memory.
pub runs_listed : (s : State) → sound s ≡ true → (b : Bool) → Listed s b
runs_listed s ok b = record {
  accepted = ap (λ (z : Count). z.refusal) (counted_is s ok b);
  past = λ n h. at-is s ok b n ∙ ap first (drop_of_length-le (records_in s.head s.words b) {i = n} (omega (arith, ap (λ (z : Count). z.count) (counted_is s ok b))));
  shows = λ j l.
      ap (runs_show j (visible_of s)) (all_read s ok b)
      ∙ records-show s.units j l (visible_of s) 0 (runs_by b (runs (model s).items)) (runs_stand s.units b (model s).items)
      ∙ ap (map (spelled_cell s.units)) (by-cells b j l (model s).items);
  counts = subst Counted (sym (all_read s ok b)) (records-counted 0 (runs_by b (runs (model s).items)));
  apart = λ e. subst Apart (sym (all_read s ok b)) (by_apart b e (runs (model s).items) (joined_maximal (runs (model s).items)));
}

-- Whoever goes over the runs from the first on, as the program does, gets those that `run_at` hands out by number.
pub runs_handed : (s : State) (b : Bool) (w : Runs) → Begun s.head s.words s.units b (Ok w) → left w ≡ all_runs s b
runs_handed s b w g = g.2 ∙ sym (all_read s g.0 b)

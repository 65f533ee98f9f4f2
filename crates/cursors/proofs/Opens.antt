-- A text run that has begun: what each item does to it, and where it ends. Assumes nothing.
use Prim.Native.Nat.{ℕ, zero, suc, ◌+◌, ◌-◌, ◌<◌}
use native.Mathlib.Omega.{arith}
use mathlib.Core.Path.{◌≡◌, refl, sym, ap, ap₂, ◌∙◌}
use mathlib.Core.Bool.{Bool, true, false, cond, not, true≢false}
use mathlib.Core.List.{List, [], ◌∷◌, ◌++◌, append-nil}
use lib.ListN.{length, length-append}
use Rattle.attrs.specs.declared.Attrs.{Attrs}
use Rattle.sets.specs.Sets.{Env, keys, same_sets, same_force}
use Rattle.attrs.specs.Packed.{says, env_of}
use Rattle.rules.specs.Sheet.{What, text, embed, mark, Item}
use Rattle.rules.specs.Reading.{live, pass_key, Glyph, unit, units_of, glyphs}
use Rattle.rules.specs.Sound.{Fits}
use Rattle.rules.specs.Runs.{Run as Stretch, object, runs_from, ahead, joined}
use Rattle.laws.proofs.Lists.{length-glyphs}
use Rattle.layout.specs.Word.{shown_len}
use Rattle.cursors.specs.declared.run.Run.{Run}
use Rattle.cursors.specs.declared.walk.Spot.{Spot}
use Rattle.cursors.specs.Records.{records_of, runs_by}
use Rattle.layout.specs.Force.{mark_on}
use Rattle.cursors.specs.Cursors.{passed_by, stops_at, ends_by, rest, records_at, Plain, Stands, text_record}
use Rattle.cursors.proofs.Merges.{stretch, same_refl, ahead-ahead, open-ahead}
use Rattle.cursors.proofs.Forces.{env-passed, same-plain, same-is}
use Rattle.cursors.proofs.Spots.{here, next, rest-next, rest-none, steps, text-record}

-- The runs from here on, with the text gs open since f was in force; e is in force now.
unfoldable pub opened : Bool → List Glyph → Env → Env → List Item → List Stretch
opened false gs f e l = runs_from gs e l
opened true gs f e l = ahead (stretch gs f) (joined (runs_from [] e l))

-- what is seen of an item
unfoldable seen_of : Bool → What → List Glyph
seen_of d w = cond d [] (glyphs w)

-- the same item, by whether it is deleted, and what it is
abbrev item : Item → Bool → What → Item
item i d w = record { num = i.num; what = w; flags = record { dead = d; added = i.flags.added; gone = i.flags.gone } }

-- ---- on lists: f was in force where the run began, e is in force now; while plain runs are made the two are one

module _ (g : Glyph) (gs : List Glyph) (f e : Env) (i : Item) (l : List Item) where
  abbrev left : List Stretch
  left = joined (runs_from [] e l)

  -- a text on which the same is in force goes on
  more-text : (a : Glyph) (bs : List Glyph) → f ≡ e
      → ahead (stretch (g ∷ gs) f) (joined (runs_from (a ∷ bs) e l)) ≡ ahead (stretch ((g ∷ gs) ++ (a ∷ bs)) f) left
  more-text a bs q =
      ap (ahead (stretch (g ∷ gs) f)) (open-ahead a bs e l)
      ∙ ahead-ahead (g ∷ gs) f (stretch (a ∷ bs) e) left
      ∙ ap (λ (b : Bool). cond b (ahead (stretch ((g ∷ gs) ++ (a ∷ bs)) e) left) (stretch (g ∷ gs) f ∷ ahead (stretch (a ∷ bs) e) left))
      (ap (λ (d : Env). same_force keys d e) q ∙ same_refl keys e)
      ∙ ap (λ (d : Env). ahead (stretch ((g ∷ gs) ++ (a ∷ bs)) d) left) (sym q)

  -- one on which something else is does not
  other_text : (a : Glyph) (bs : List Glyph) → same_force keys f e ≡ false
      → ahead (stretch (g ∷ gs) f) (joined (runs_from (a ∷ bs) e l)) ≡ stretch (g ∷ gs) f ∷ joined (runs_from (a ∷ bs) e l)
  other_text a bs q =
      ap (ahead (stretch (g ∷ gs) f)) (open-ahead a bs e l)
      ∙ ahead-ahead (g ∷ gs) f (stretch (a ∷ bs) e) left
      ∙ ap (λ (b : Bool). cond b (ahead (stretch ((g ∷ gs) ++ (a ∷ bs)) e) left) (stretch (g ∷ gs) f ∷ ahead (stretch (a ∷ bs) e) left)) q
      ∙ ap (λ (rs : List Stretch). stretch (g ∷ gs) f ∷ rs) (sym (open-ahead a bs e l))

  seen_none : (j : Bool) (d : Env) → opened j (g ∷ gs) f d l ≡ opened j ((g ∷ gs) ++ []) f d l
  seen_none j d = ap (λ (xs : List Glyph). opened j xs f d l) (sym (append-nil (g ∷ gs)))

  opened-pass : (j : Bool) (d : Bool) (w : What) (used : ℕ) (same : Bool) → Fits used w → (same ≡ true → f ≡ e) → cond d false (stops_at j same w) ≡ false
      → opened j (g ∷ gs) f e (item i d w ∷ l) ≡ opened j ((g ∷ gs) ++ seen_of d w) f (λ k. pass_key live k (item i d w) (e k)) l
  unfolding opened seen_of stops_at
  opened-pass true true w used same t q p = seen_none true e
  opened-pass false true w used same t q p = seen_none false e
  opened-pass true false (text a zero) used same t q p = absurd (omega arith)
  opened-pass true false (text a (suc n)) used true t q p = more-text (unit a) (units_of (suc a) n) (q refl)
  opened-pass true false (text a (suc n)) used false t q p = absurd (true≢false p)
  opened-pass false false (text a n) used same t q p = refl
  opened-pass j false (embed x) used same t q p = absurd (true≢false p)
  opened-pass true false (mark k v) used same t q p = seen_none true (λ z. pass_key live z (item i false (mark k v)) (e z))
  opened-pass false false (mark k v) used same t q p = absurd (true≢false p)

  opened-ends : (j : Bool) (d : Bool) (w : What) (used : ℕ) (same : Bool) → Fits used w → same ≡ same_force keys f e → (j ≡ false → f ≡ e) → cond d false (stops_at j same w) ≡ true
      → opened j (g ∷ gs) f e (item i d w ∷ l) ≡ stretch (g ∷ gs) f ∷ runs_by j (runs_from [] e (item i d w ∷ l))
  unfolding opened stops_at runs_by
  opened-ends j true w used same t q k p = absurd (true≢false (sym p))
  opened-ends true false (text a zero) used same t q k p = absurd (omega arith)
  opened-ends true false (text a (suc n)) used true t q k p = absurd (true≢false (sym p))
  opened-ends true false (text a (suc n)) used false t q k p = other_text (unit a) (units_of (suc a) n) (sym q)
  opened-ends false false (text a n) used true t q k p = absurd (true≢false (sym p))
  opened-ends false false (text a n) used false t q k p = absurd (true≢false (sym (q ∙ ap (λ (d : Env). same_force keys d e) (k refl) ∙ same_refl keys e)))
  opened-ends true false (embed x) used same t q k p = ahead-ahead (g ∷ gs) f (record { chunk = object x; force = e }) left
  opened-ends false false (embed x) used same t q k p = ap (λ (d : Env). stretch (g ∷ gs) d ∷ record { chunk = object x; force = e } ∷ runs_from [] e l) (sym (k refl))
  opened-ends true false (mark c v) used same t q k p = absurd (true≢false (sym p))
  opened-ends false false (mark c v) used same t q k p = ap (λ (d : Env). stretch (g ∷ gs) d ∷ runs_from [] (λ z. pass_key live z (item i false (mark c v)) (e z)) l) (sym (k refl))

opened-none : (j : Bool) (g : Glyph) (gs : List Glyph) (f e : Env) → (j ≡ false → f ≡ e) → opened j (g ∷ gs) f e [] ≡ stretch (g ∷ gs) f ∷ runs_by j (runs_from [] e [])
unfolding opened runs_by
opened-none true g gs f e k = refl
opened-none false g gs f e k = ap (λ (d : Env). stretch (g ∷ gs) d ∷ []) (sym (k refl))

pub opened-start : (j : Bool) (g : Glyph) (gs : List Glyph) (e : Env) (l : List Item) → opened j (g ∷ gs) e e l ≡ runs_by j (runs_from (g ∷ gs) e l)
unfolding opened runs_by
opened-start true g gs e l = sym (open-ahead g gs e l)
opened-start false g gs e l = refl

-- ---- in memory: a run that began at a, with the set f in force, and has come to the place s

pub record Open (j : Bool) (m : List ℕ) (f : Attrs) (a : ℕ) (s : Spot) (answer : List Run) : Type 0 where
  pub first : Glyph
  pub others : List Glyph
  pub long : a + length (first ∷ others) ≡ s.passed
  pub kept : j ≡ false → f ≡ s.force
  pub same : records_of a (opened j (first ∷ others) (env_of f) (env_of s.force) (rest m s)) ≡ answer

seen-long : (d : Bool) (w : What) → length (seen_of d w) ≡ shown_len d w
unfolding seen_of
seen-long true w = refl
seen-long false w = length-glyphs w

-- a plain run goes on over no mark, so what is in force stays
still : (c : Attrs) (j same d : Bool) (w : What) → cond d false (stops_at j same w) ≡ false → j ≡ false → c ≡ passed_by c d w
unfolding stops_at passed_by mark_on
still c j same true w p z = refl
still c j same false (text a n) p z = refl
still c j same false (embed x) p z = refl
still c j same false (mark k v) p z = absurd (true≢false (sym (ap not z) ∙ p))

-- a run that ends here is one record, and the records go on
closes : (j : Bool) (m : List ℕ) (f : Attrs) (a : ℕ) (s : Spot) (answer : List Run) → Plain f → (o : Open j m f a s answer)
    → opened j (o.first ∷ o.others) (env_of f) (env_of s.force) (rest m s) ≡ stretch (o.first ∷ o.others) (env_of f) ∷ runs_by j (runs_from [] (env_of s.force) (rest m s))
    → answer ≡ text_record a (s.passed - a) f ∷ records_at j m s
unfolding records_of records_at
closes j m f a s answer p o e =
    let n : length (o.first ∷ o.others) ≡ s.passed - a = omega (arith, o.long) in
    sym o.same
    ∙ ap (records_of a) e
    ∙ ap₂ (λ (r : Run) (k : ℕ). r ∷ records_of k (runs_by j (runs_from [] (env_of s.force) (rest m s)))) (text-record a (o.first ∷ o.others) f p) o.long
    ∙ ap (λ (k : ℕ). text_record a k f ∷ records_at j m s) n

pub open_out : (j : Bool) (m : List ℕ) (f : Attrs) (a : ℕ) (s : Spot) (answer : List Run) → Plain f → s.todo ≡ 0 → Open j m f a s answer
    → answer ≡ text_record a (s.passed - a) f ∷ records_at j m s
open_out j m f a s answer p z o =
    closes j m f a s answer p o
    (rw (rest-none m s z) (opened-none j o.first o.others (env_of f) (env_of s.force) (λ q. ap env_of (o.kept q))))

module _ (j : Bool) (m : List ℕ) (f : Attrs) (a : ℕ) (s : Spot) (answer : List Run) (p : Plain f) (st : Stands m s) (h : 0 < s.todo) where
  pub open-stop : ends_by j f s.force (here m s).flags.dead (here m s).what ≡ true → Open j m f a s answer
      → answer ≡ text_record a (s.passed - a) f ∷ records_at j m s
  unfolding ends_by
  open-stop q o =
      let t = steps m s st h in
      closes j m f a s answer p o
      (rw (rest-next m s h)
      (opened-ends o.first o.others (env_of f) (env_of s.force) (here m s) (rest m (next m s)) j (here m s).flags.dead (here m s).what t.used (same_sets keys (says f) (says s.force)) t.fits
      (same-plain f s.force p st.plain) (λ z. ap env_of (o.kept z)) q))

  pub open_turn : ends_by j f s.force (here m s).flags.dead (here m s).what ≡ false → Open j m f a s answer → Open j m f a (next m s) answer
  unfolding ends_by
  open_turn q o =
      let t = steps m s st h in
      let d = (here m s).flags.dead in
      let w = (here m s).what in
      record {
        first = o.first;
        others = o.others ++ seen_of d w;
        long = simp length-append (omega (arith, o.long, seen-long d w));
        kept = λ z. o.kept z ∙ still s.force j (same_sets keys (says f) (says s.force)) d w q z;
        same =
            ap (λ (e : Env). records_of a (opened j ((o.first ∷ o.others) ++ seen_of d w) (env_of f) e (rest m (next m s)))) (env-passed s.force t.used (here m s) t.fits)
            ∙ ap (records_of a) (sym (opened-pass o.first o.others (env_of f) (env_of s.force) (here m s) (rest m (next m s)) j d w t.used (same_sets keys (says f) (says s.force)) t.fits
            (λ z. ap env_of (same-is f s.force p st.plain (sym (same-plain f s.force p st.plain) ∙ z))) q))
            ∙ ap (λ (l : List Item). records_of a (opened j (o.first ∷ o.others) (env_of f) (env_of s.force) l)) (sym (rest-next m s h))
            ∙ o.same;
      }

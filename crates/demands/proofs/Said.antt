-- What the calls answer of a sound sheet in memory is what the rules say of its model, in the words of the bench pieces. Assumes nothing.
use Prim.Native.Nat.{ℕ, zero, suc, ◌+◌, ◌≤◌, ◌<◌}
use Rattle.std.proofs.Common.{rules}
use native.Mathlib.Omega.{arith}
use mathlib.Core.Path.{◌≡◌, refl, sym, ap, ap₂, subst, subst⁻¹, ◌∙◌}
use mathlib.Core.Bool.{Bool, true, false, not, ◌&&◌}
use mathlib.Core.List.{List, [], ◌∷◌, ◌++◌, map}
use lib.ListN.{length, take}
use lib.Seq.{get_or-take}
use Rattle.sets.specs.Sets.{Set, Env, keys, present, as_set}
use Rattle.attrs.specs.Packed.{says, packed}
use Rattle.attrs.proofs.Says.{says-packed}
use Rattle.rules.specs.Sheet.{What, Item}
use Rattle.rules.specs.Sound.{Fits, AllFit}
use Rattle.rules.specs.Reading.{Seen, before, live, Glyph, unit, thing, units_of, glyphs, visible, insert, delete, retain}
use Rattle.rules.specs.Event.{event, script}
use Rattle.rules.specs.Scripts.{seen_by, given}
use Rattle.rules.specs.Runs.{Chunk, words, object, Run as Stretch, runs, glyphs_of, keys_of, run_keys}
use Rattle.rules.specs.Runs as rules
use Rattle.rules.specs.Calls.{unit_at}
use Rattle.rules.specs.PieceParts.{Attrs, pair_for, pairs, valued, Said, t, x, r, d, Says, holds, shows, leaves, long, plain, merged, tells, carries, counts, item, range, replays, answer}
use Rattle.rules.specs.PieceParts as parts
use Rattle.laws.proofs.Cuts.{seen-live}
use Rattle.laws.proofs.Told.{given-giving, given-keeps, given_drops, event-tells}
use Rattle.items.specs.Calls.{length_of}
use Rattle.cursors.specs.declared.run.Run.{Run}
use Rattle.cursors.specs.Records.{len_of, record_of, records_of, runs_by}
use Rattle.events.specs.Told.{Ops}
use Rattle.events.proofs.Events.{walkable}
use Rattle.demands.specs.Steps.{State, sound, model}
use Rattle.demands.specs.Written.{spelled, spelled_op}
use Rattle.demands.specs.Demands.{read_event}
use Rattle.demands.specs.Listing.{all_runs, run_glyphs, visible_of}
use Rattle.demands.specs.Bench.{letter, said_run, said_glyphs, said_op, answer_by}
use Rattle.demands.proofs.Transaction.{wrote-room, wrote-back}
use Rattle.demands.proofs.Listing.{all_read, all_glyphs, Stand, by-glyphs, runs_stand}

-- ---- units in use
abbrev Below : ℕ → List Glyph → Type 0
Below n [] = Unit {0}
Below n (unit p ∷ gs) = (p < n) × Below n gs
Below n (thing e ∷ gs) = Below n gs

module _ (n : ℕ) where
  below_left : (a b : List Glyph) → Below n (a ++ b) → Below n a
  below_left [] b f = tt
  below_left (g ∷ a) b f = grind (rules, below_left a b)

  below_right : (a b : List Glyph) → Below n (a ++ b) → Below n b
  below_right [] b f = f
  below_right (g ∷ a) b f = grind (rules, below_right a b)

  below_both : (a b : List Glyph) → Below n a → Below n b → Below n (a ++ b)
  below_both [] b f g = g
  below_both (h ∷ a) b f g = grind (rules, below_both a b)

  below-units : (s k : ℕ) → s + k ≤ n → Below n (units_of s k)
  below-units s zero h = tt
  below-units s (suc k) h = grind (rules, arith, below-units (suc s) k)

  below-what : (w : What) → Fits n w → Below n (glyphs w)
  below-what w f = grind (rules, below-units)

  below-seen : (see : Seen) (l : List Item) → AllFit n l → Below n (seen_by see l)
  below-seen see [] f = tt
  below-seen see (i ∷ l) f = grind (rules, below_both, below-what, below-seen see l)

  -- read where they lie, or in the used part
  letters : (u : List ℕ) (gs : List Glyph) → Below n gs → map letter (map (spelled u) gs) ≡ map (unit_at (take n u)) gs
  letters u [] f = refl
  letters u (g ∷ gs) f = grind (rules, letters u gs, get_or-take)

-- ---- attributes
pairs-packed : (a : Set) → pairs keys (says (packed a)) ≡ pairs keys a
unfolding keys
pairs-packed a = ap (pairs keys) (says-packed a)

pairs-valued : (ks : List ℕ) (e : Env) → pairs ks (as_set e) ≡ valued e (keys_of ks e)
pairs-valued [] e = refl
pairs-valued (k ∷ ks) e = grind (rules, pairs-valued ks e)

keys-present : (ks : List ℕ) (e : Env) → present ks (as_set e) ≡ keys_of ks e
keys-present [] e = refl
keys-present (k ∷ ks) e = grind (rules, keys-present ks e)

-- ---- runs
module _ (u : List ℕ) (used : ℕ) where
  run-said : (q : Stretch) (vs : List Glyph) (n : ℕ) → run_glyphs vs (record_of n q) ≡ map (spelled u) (glyphs_of q.chunk) → Below used (glyphs_of q.chunk)
      → said_run vs (record_of n q) ≡ parts.said_run (take used u) q
  run-said q vs n h f = go q.chunk h f (pairs-packed (as_set q.force) ∙ pairs-valued keys q.force)
    where
      go : (c : Chunk) → run_glyphs vs (record_of n (record { chunk = c; force = q.force })) ≡ map (spelled u) (glyphs_of c) → Below used (glyphs_of c)
          → pairs keys (says (packed (as_set q.force))) ≡ valued q.force (run_keys q)
          → said_run vs (record_of n (record { chunk = c; force = q.force })) ≡ parts.said_chunk (take used u) c (valued q.force (run_keys q))
      go (words gs) h f p = ap₂ t (ap (map letter) h ∙ letters used u gs f) p
      go (object y) h f p = ap (x y) p

  runs-said : (vs : List Glyph) (n : ℕ) (rs : List Stretch) → Stand u vs n rs → Below used (all_glyphs rs) → map (said_run vs) (records_of n rs) ≡ map (parts.said_run (take used u)) rs
  unfolding records_of
  runs-said vs n [] h f = refl
  runs-said vs n (q ∷ rs) h f = grind (rules, run-said q vs n, runs-said vs (n + len_of q.chunk) rs, below_left, below_right)

counts-said : (n : ℕ) (rs : List Stretch) → map (λ (q : Run). q.count) (records_of n rs) ≡ map rules.run_count rs
unfolding records_of
counts-said n [] = refl
counts-said n (q ∷ rs) = grind (rules, keys-present, counts-said (n + len_of q.chunk) rs)

-- ---- the event
glyphs-said : (u : List ℕ) (used : ℕ) (gs : List Glyph) (a : Attrs) → Below used gs → said_glyphs (map (spelled u) gs) a ≡ parts.said_glyphs (take used u) gs a
glyphs-said u used [] a f = refl
glyphs-said u used (unit p ∷ gs) a f = ap (λ (y : List ℕ). t y a) (letters used u (unit p ∷ gs) f)
glyphs-said u used (thing e ∷ gs) a f = refl

ops-said : (u : List ℕ) (used : ℕ) (ops : Ops) → Below used (given (script ops)) → map said_op (map (spelled_op u) ops) ≡ map (parts.said_op (take used u)) ops
ops-said u used [] f = refl
ops-said u used (insert gs a ∷ ops) f =
    let g : Below used (gs ++ given (script ops)) = subst (Below used) (given-giving gs (script ops)) f in
    ap₂ (λ (y : Said) (ys : List Said). y ∷ ys) (glyphs-said u used gs (pairs keys a) (below_left used gs (given (script ops)) g)) (ops-said u used ops (below_right used gs (given (script ops)) g))
ops-said u used (delete n ∷ ops) f = ap (λ (ys : List Said). d n ∷ ys) (ops-said u used ops (subst (Below used) (given_drops n (script ops)) f))
ops-said u used (retain n a ∷ ops) f = ap (λ (ys : List Said). r n (pairs keys a) ∷ ys) (ops-said u used ops (subst (Below used) (given-keeps n (script ops)) f))

-- ---- all that pieces ask
module _ (k : State) (ok : sound k ≡ true) (w o : List ℕ) (lw : 16384 ≤ length w) (lo : 16384 ≤ length o) where
  abbrev list : List Item
  list = (model k).items

  fit : AllFit k.head.units list
  fit = (walkable k.head k.words k.units ok).fit

  length-asked : (length_of k.head k.words k.units).len ≡ visible list
  unfolding length_of
  length-asked = rw ok

  runs-asked : (b : Bool) → map (said_run (visible_of k)) (all_runs k b) ≡ map (parts.said_run (model k).units) (runs_by b (runs list))
  runs-asked b =
      ap (map (said_run (visible_of k))) (all_read k ok b)
      ∙ runs-said k.units k.head.units (visible_of k) 0 (runs_by b (runs list)) (runs_stand k.units b list)
      (subst (Below k.head.units) (seen-live list ∙ sym (by-glyphs b list)) (below-seen k.head.units live list fit))

  event-asked : map said_op (read_event k w o) ≡ map (parts.said_op (model k).units) (event before live list)
  event-asked =
      ap (map said_op) (wrote-back k ok w o (wrote-room k ok w o lw lo))
      ∙ ops-said k.units k.head.units (event before live list)
      (subst⁻¹ (Below k.head.units) (event-tells before live list).news (below-seen k.head.units (λ f. not (before f) && live f) list fit))

  pub asked : (q : Says) → answer_by k w o q ≡ answer (model k) q
  unfolding runs_by
  asked (long n) = ap long length-asked
  asked (plain rs) = ap plain (runs-asked false)
  asked (merged rs) = ap merged (runs-asked true)
  asked (counts ns) = ap counts (ap (map (λ (q : Run). q.count)) (all_read k ok false) ∙ counts-said 0 (runs list))
  asked (tells ops) = ap tells event-asked
  asked (holds xs) = refl
  asked (shows ws) = refl
  asked (leaves s) = refl
  asked (carries n a) = refl
  asked (item j us) = refl
  asked (range i n us) = refl
  asked (replays j vs) = refl

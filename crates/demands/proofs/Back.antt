-- What `event` writes is read back as the event: operation by operation, with its set and its units.
use Prim.Native.Nat.{ℕ, zero, suc, ◌+◌, ◌<◌}
use Rattle.std.proofs.Common.{rules}
use native.Mathlib.Omega.{arith}
use mathlib.Core.Path.{◌≡◌, refl, sym, ap, ap₂, ◌∙◌}
use mathlib.Core.List.{List, [], ◌∷◌, ◌++◌, map, append_assoc}
use lib.ListN.{length, get_or, take, drop, length-append}
use lib.Seq.{take-append_seam, drop_at}
use Rattle.std.specs.Prelude.{Some}
use Rattle.sets.specs.Sets.{Slot, Set}
use Rattle.attrs.specs.Packed.{Held, hidden, byte, store, values_of, make, says, packed}
use Rattle.attrs.proofs.Says.{says-packed, whole-packed}
use Rattle.attrs.proofs.Force.{Keyed, within_keyed}
use Rattle.rules.specs.Reading.{Glyph, unit, thing, Op, insert, delete, retain}
use Rattle.rules.specs.Event.{in_units}
use Rattle.ops.specs.declared.delta.DeltaOp.{DeltaOp}
use Rattle.encoding.specs.Words.{all_words, found_at}
use Rattle.encoding.proofs.Back.{Lawful, read_back_lem}
use Rattle.events.specs.Told.{Ops, units_in, part_of, delta_of, delta_ops, encoded, units_for, texts}
use Rattle.events.proofs.Texts.{length_for}
use Rattle.demands.specs.Written.{part_in, op_in, ops_found, read_back, spelled, spelled_op}
use Rattle.demands.proofs.Fair.{Fair, FairSet, AllUnits, Lone, FairOp, FairOps}

-- ---- a set
store_byte : (k : ℕ) (s : Slot) → Fair k s → byte (store s (hidden 0)) < 256
store_byte k s f = grind (rules, arith)

values-byte : (n : ℕ) (f : ℕ → Held) → ((k : ℕ) → byte (f k) < 256) → (k : ℕ) → get_or (values_of n f) k 0 < 256
unfolding values_of
values-byte zero f h k = omega arith
values-byte (suc n) f h k = grind (rules, h, values-byte n)

packed_byte : (a : Set) → FairSet a → (k : ℕ) → get_or (packed a).values k 0 < 256
unfolding packed make
packed_byte a f = values-byte 16 (λ k. store (a k) (hidden 0)) (λ k. store_byte k (a k) (f k))

pub packed_lawful : (a : Set) → FairSet a → Lawful (packed a)
packed_lawful a f = record { fits = (whole-packed a).fits; long = (whole-packed a).long; bytes = packed_byte a f }

fair_keyed : (a : Set) → FairSet a → Keyed a
fair_keyed a f k l = grind (rules, arith, f k)

-- what is packed says what it was packed from
pub says_back : (a : Set) → FairSet a → says (packed a) ≡ a
says_back a f = says-packed a ∙ within_keyed a (fair_keyed a f)

-- ---- an operation
units-spelled : (u : List ℕ) (gs : List Glyph) → AllUnits gs → map unit (units_for u gs) ≡ map (spelled u) gs
units-spelled u [] f = refl
units-spelled u (g ∷ gs) f = grind (rules, units-spelled u gs)

-- the units of a text, where they stand
text_at : (u : List ℕ) (gs : List Glyph) (p : ℕ) (before behind : List ℕ) → length before ≡ p → take (in_units gs) (drop p (before ++ (units_for u gs ++ behind))) ≡ units_for u gs
text_at u gs p before behind e =
    ap (take (in_units gs)) (drop_at before (units_for u gs ++ behind) p e)
    ∙ ap (λ (n : ℕ). take n (units_for u gs ++ behind)) (sym (length_for u gs)) ∙ take-append_seam (units_for u gs) behind

part-back : (u : List ℕ) (gs : List Glyph) (p : ℕ) (before behind : List ℕ) → length before ≡ p → Lone gs → part_in (before ++ (units_for u gs ++ behind)) (part_of p gs) ≡ map (spelled u) gs
part-back u [] p before behind e f = refl
part-back u (unit q ∷ gs) p before behind e f = ap (map unit) (text_at u (unit q ∷ gs) p before behind e) ∙ units-spelled u (unit q ∷ gs) f
part-back u (thing x ∷ gs) p before behind e f = ap (λ (y : List Glyph). thing x ∷ map (spelled u) y) (sym f)

-- the units that one operation brings
abbrev text_of : List ℕ → Op (List Glyph) → List ℕ
text_of u (insert gs a) = units_for u gs
text_of u (delete n) = []
text_of u (retain n a) = []

text-long : (u : List ℕ) (op : Op (List Glyph)) → length (text_of u op) ≡ units_in op
text-long u op = grind (rules, length_for)

texts-on : (u : List ℕ) (op : Op (List Glyph)) (ops : Ops) → texts u (op ∷ ops) ≡ text_of u op ++ texts u ops
unfolding texts
texts-on u op ops = grind rules

op_lawful : (p : ℕ) (op : Op (List Glyph)) → FairOp op → Lawful (delta_of p op).attrs
op_lawful p op f = grind (rules, packed_lawful)

op-spelled : (u : List ℕ) (op : Op (List Glyph)) (p : ℕ) (before behind : List ℕ) → length before ≡ p → FairOp op
    → op_in (before ++ (text_of u op ++ behind)) (delta_of p op).op (delta_of p op).attrs ≡ spelled_op u op
op-spelled u op p before behind e f = grind (rules, part-back, says_back)

-- ---- all of them
module _ (u ws : List ℕ) (os : List ℕ) where
  back : (ops : Ops) (pre : List DeltaOp) (p : ℕ) (done : List ℕ) → length done ≡ p → FairOps ops
      → read_back (length pre) (length ops) (all_words (pre ++ delta_ops p ops) ++ ws) (done ++ (texts u ops ++ os)) ≡ map (spelled_op u) ops
  unfolding read_back delta_ops
  back [] pre p done e f = refl
  back (op ∷ ops) pre p done e f =
      let d = delta_of p op in
      let rest = delta_ops (p + units_in op) ops in
      let w = all_words (pre ++ (d ∷ rest)) ++ ws in
      let o : done ++ (texts u (op ∷ ops) ++ os) ≡ done ++ (text_of u op ++ (texts u ops ++ os)) = ap (λ (x : List ℕ). done ++ x) (ap (λ (x : List ℕ). x ++ os) (texts-on u op ops) ∙ append_assoc (text_of u op) (texts u ops) os) in
      let o' : (done ++ text_of u op) ++ (texts u ops ++ os) ≡ done ++ (text_of u op ++ (texts u ops ++ os)) = append_assoc done (text_of u op) (texts u ops ++ os) in
      let w' : all_words ((pre ++ (d ∷ [])) ++ rest) ++ ws ≡ w = ap (λ (x : List DeltaOp). all_words x ++ ws) (append_assoc pre (d ∷ []) rest) in
      let n : length (pre ++ (d ∷ [])) ≡ suc (length pre) = omega (arith, length-append pre (d ∷ [])) in
      let first : found_at w (length pre) ≡ Some d = read_back_lem pre rest d ws (op_lawful p op f.0) in
      let later = back ops (pre ++ (d ∷ [])) (p + units_in op) (done ++ text_of u op) (omega (arith, length-append done (text_of u op), text-long u op)) f.1 in
      let here : ops_found (done ++ (text_of u op ++ (texts u ops ++ os))) (found_at w (length pre)) ≡ spelled_op u op ∷ [] =
      ap (ops_found (done ++ (text_of u op ++ (texts u ops ++ os)))) first
      ∙ ap (λ (x : Op (List Glyph)). x ∷ []) (op-spelled u op p done (texts u ops ++ os) e f.0) in
      let more : read_back (suc (length pre)) (length ops) w (done ++ (text_of u op ++ (texts u ops ++ os))) ≡ map (spelled_op u) ops =
      sym (ap (λ (x : ℕ). read_back x (length ops) w (done ++ (text_of u op ++ (texts u ops ++ os)))) n)
      ∙ sym (ap₂ (λ (x y : List ℕ). read_back (length (pre ++ (d ∷ []))) (length ops) x y) w' o') ∙ later in
      ap (λ (x : List ℕ). ops_found x (found_at w (length pre)) ++ read_back (suc (length pre)) (length ops) w x) o
      ∙ ap₂ (λ (x y : Ops). x ++ y) here more

  -- What stands at the front of both buffers is the event.
  pub event-back : (ops : Ops) → FairOps ops → read_back 0 (length ops) (encoded ops ++ ws) (texts u ops ++ os) ≡ map (spelled_op u) ops
  unfolding encoded
  event-back ops f = back ops [] 0 [] refl f

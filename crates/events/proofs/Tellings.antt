-- Laws of telling: in parts, what it keeps, and what it writes.
use Prim.Native.Nat.{ℕ, zero, suc, ◌+◌, ◌-◌, ◌*◌, ◌≤◌, ◌<◌}
use native.Mathlib.Omega.{arith}
use native.Mathlib.Nat.{add-zero}
use mathlib.Core.Path.{◌≡◌, refl, sym, ap, ◌∙◌}
use mathlib.Core.Bool.{Bool, true, false, cond}
use mathlib.Core.List.{List, [], ◌∷◌, ◌++◌}
use lib.Dec.{ltb}
use lib.ListN.{length, take, set}
use lib.Seq.{sets}
use borrow.Author.Tests.{ltb-true, ltb-false}
use Rattle.sets.specs.Sets.{Set, keys, bare}
use Rattle.attrs.specs.Packed.{says, packed}
use Rattle.attrs.proofs.Says.{says-packed}
use Rattle.rules.specs.Reading.{Glyph, Op, insert, delete, retain}
use Rattle.rules.specs.Event.{is_plain, ahead, finish, told_units}
use Rattle.ops.specs.declared.delta.DeltaOp.{DeltaOp}
use Rattle.encoding.specs.Words.{words_of, all_words}
use Rattle.events.specs.Told.{Ops, units_in, delta_of, delta_ops, plain_kind, kept_by, wrote_by, Telling, tell_all}

-- ---- in parts

pub tell-append : (limit : ℕ) (s : Telling) (a b : List DeltaOp) → tell_all limit s (a ++ b) ≡ tell_all limit (tell_all limit s a) b
unfolding tell_all
tell-append limit s [] b = refl
tell-append limit s (d ∷ a) b =
    tell-append limit (record { told = s.told + 1; kept = kept_by s.told s.kept d; words = wrote_by limit s.told s.words d }) a b

told-units : (op : Op (List Glyph)) (ops : Ops) → told_units (op ∷ ops) ≡ units_in op + told_units ops
told-units (insert gs a) ops = refl
told-units (delete n) ops = omega arith
told-units (retain n a) ops = omega arith

pub ops_append : (p : ℕ) (a b : Ops) → delta_ops p (a ++ b) ≡ delta_ops p a ++ delta_ops (p + told_units a) b
unfolding delta_ops
ops_append p [] b = ap (λ (x : ℕ). delta_ops x b) (sym (add-zero p))
ops_append p (op ∷ a) b =
    let e : (p + units_in op) + told_units a ≡ p + told_units (op ∷ a) = omega (arith, told-units op a) in
    ap (λ (x : List DeltaOp). delta_of p op ∷ x) (ops_append (p + units_in op) a b ∙ ap (λ (x : ℕ). delta_ops (p + units_in op) a ++ delta_ops x b) e)

pub length-ops : (p : ℕ) (a : Ops) → length (delta_ops p a) ≡ length a
unfolding delta_ops
length-ops p [] = refl
length-ops p (op ∷ a) = ap suc (length-ops (p + units_in op) a)

pub take-ops : (n p : ℕ) (a : Ops) → take n (delta_ops p a) ≡ delta_ops p (take n a)
unfolding delta_ops
take-ops zero p a = refl
take-ops (suc n) p [] = refl
take-ops (suc n) p (op ∷ a) = ap (λ (x : List DeltaOp). delta_of p op ∷ x) (take-ops n (p + units_in op) a)

pub length-words : (ds : List DeltaOp) → length (all_words ds) ≡ 8 * length ds
length-words [] = refl
length-words (d ∷ ds) = omega (arith, length-words ds)

-- ---- what is kept

bare-packed : (a : Set) → bare keys (says (packed a)) ≡ bare keys a
unfolding keys
bare-packed a = ap (bare keys) (says-packed a)

plain-is : (p : ℕ) (op : Op (List Glyph)) → plain_kind (delta_of p op).op (delta_of p op).attrs ≡ is_plain op
plain-is p (insert gs a) = refl
plain-is p (delete n) = refl
plain-is p (retain n a) = bare-packed a

-- the number of operations up to the last that is not a plain Retain, from n told and c kept before
abbrev kept_from : ℕ → ℕ → Ops → ℕ
kept_from n c [] = c
kept_from n c (op ∷ ops) = n + length (op ∷ ops)

kept-ahead : (n c : ℕ) (op : Op (List Glyph)) (f : Ops) → kept_from (n + 1) (cond (is_plain op) c (n + 1)) f ≡ kept_from n c (ahead op f)
kept-ahead n c op (o ∷ f) = omega arith
kept-ahead n c op [] = go (is_plain op)
  where
    go : (b : Bool) → cond b c (n + 1) ≡ kept_from n c (cond b [] (op ∷ []))
    go true = refl
    go false = refl

pub kept-is : (limit p n c : ℕ) (w : List ℕ) (ops : Ops) → (tell_all limit (record { told = n; kept = c; words = w }) (delta_ops p ops)).kept ≡ kept_from n c (finish ops)
unfolding tell_all delta_ops
kept-is limit p n c w [] = refl
kept-is limit p n c w (op ∷ ops) =
    kept-is limit (p + units_in op) (n + 1) (kept_by n c (delta_of p op)) (wrote_by limit n w (delta_of p op)) ops
    ∙ ap (λ (b : Bool). kept_from (n + 1) (cond b c (n + 1)) (finish ops)) (plain-is p op)
    ∙ kept-ahead n c op (finish ops)

pub kept-all : (limit : ℕ) (w : List ℕ) (ops : Ops) → (tell_all limit (record { told = 0; kept = 0; words = w }) (delta_ops 0 ops)).kept ≡ length (finish ops)
kept-all limit w ops = kept-is limit 0 0 0 w ops ∙ go (finish ops)
  where
    go : (f : Ops) → kept_from 0 0 f ≡ length f
    go [] = refl
    go (op ∷ f) = omega arith

-- the operations that are kept stand at the front
pub finish-take : (ops : Ops) → take (length (finish ops)) ops ≡ finish ops
finish-take [] = refl
finish-take (op ∷ ops) = go (finish ops) (finish-take ops)
  where
    one : (b : Bool) → take (length (cond b [] (op ∷ []))) (op ∷ ops) ≡ cond b [] (op ∷ [])
    one true = refl
    one false = refl

    go : (f : Ops) → take (length f) ops ≡ f → take (length (ahead op f)) (op ∷ ops) ≡ ahead op f
    go [] e = one (is_plain op)
    go (o ∷ f) e = ap (λ (x : Ops). op ∷ x) e

-- ---- what is written

pub sets-append : (w : List ℕ) (i : ℕ) (a b : List ℕ) → sets w i (a ++ b) ≡ sets (sets w i a) (i + length a) b
sets-append w i [] b = ap (λ (x : ℕ). sets w x b) (sym (add-zero i))
sets-append w i (x ∷ a) b =
    let e : suc i + length a ≡ i + suc (length a) = omega arith in
    sets-append (set w i x) (suc i) a b ∙ ap (λ (k : ℕ). sets (sets (set w i x) (suc i) a) k b) e

pub words-is : (limit n c : ℕ) (w : List ℕ) (ds : List DeltaOp)
    → (tell_all limit (record { told = n; kept = c; words = w }) ds).words ≡ sets w (n * 8) (all_words (take (limit - n) ds))
unfolding tell_all
words-is limit n c w [] = go (limit - n)
  where
    go : (m : ℕ) → w ≡ sets w (n * 8) (all_words (take m []))
    go zero = refl
    go (suc m) = refl
words-is limit n c w (d ∷ ds) =
    words-is limit (n + 1) (kept_by n c d) (wrote_by limit n w d) ds ∙ go (ltb n limit) refl
  where
    go : (b : Bool) → ltb n limit ≡ b
        → sets (cond b (sets w (n * 8) (words_of d)) w) ((n + 1) * 8) (all_words (take (limit - (n + 1)) ds)) ≡ sets w (n * 8) (all_words (take (limit - n) (d ∷ ds)))
    go true e =
        let l : n < limit = ltb-true n limit e in
        let f : limit - n ≡ suc (limit - (n + 1)) = omega arith in
        let g : n * 8 + 8 ≡ (n + 1) * 8 = omega arith in
        ap (λ (i : ℕ). sets (sets w (n * 8) (words_of d)) i (all_words (take (limit - (n + 1)) ds))) (sym g)
        ∙ sym (sets-append w (n * 8) (words_of d) (all_words (take (limit - (n + 1)) ds)))
        ∙ ap (λ (m : ℕ). sets w (n * 8) (all_words (take m (d ∷ ds)))) (sym f)
    go false e =
        let l : limit ≤ n = ltb-false n limit e in
        let f : limit - n ≡ 0 = omega arith in
        let g : limit - (n + 1) ≡ 0 = omega arith in
        ap (λ (m : ℕ). sets w ((n + 1) * 8) (all_words (take m ds))) g ∙ ap (λ (m : ℕ). sets w (n * 8) (all_words (take m (d ∷ ds)))) (sym f)

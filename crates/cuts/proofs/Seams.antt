-- A sound list shows whole pieces, so an index cuts a pair of what is shown exactly if it cuts one of the piece that it falls into. Assumes nothing.
use Prim.Native.Nat.{ℕ, zero, suc, ◌+◌, ◌-◌, ◌≤◌}
use native.Mathlib.Nat.{sub-zero}
use native.Mathlib.Omega.{arith}
use mathlib.Core.Path.{◌≡◌, refl, sym, ap, ◌∙◌}
use mathlib.Core.Bool.{Bool, true, false, cond, not}
use mathlib.Core.List.{List, [], ◌∷◌, ◌++◌, map}
use lib.Dec.{ltb}
use lib.ListN.{length, get_or, take, drop, length-drop}
use lib.Seq.{drop-cons, length-take-le}
use borrow.Author.Tests.{le-ltb, ltb-true, ltb-false}
use Rattle.std.proofs.lemmas.List.{map-append}
use Rattle.units.specs.Surrogates.{paired, splits_pair}
use Rattle.units.proofs.Pairing.{splits-end, splits-append, splits-behind}
use Rattle.rules.specs.Sheet.{What, text, embed, mark, Item, width}
use Rattle.rules.specs.Reading.{units_of, glyphs, seen_glyphs}
use Rattle.rules.specs.Places.{uses}
use Rattle.rules.specs.Sound.{AllFit, Fits}
use Rattle.rules.specs.Calls.{unit_at, visible_units, PairedWhat, AllPaired}
use Rattle.cuts.specs.Cuts.{cuts_piece, cut_at}

module _ (us : List ℕ) where
  -- a piece shows its units
  piece-units : (s w : ℕ) → s + w ≤ length us → map (unit_at us) (units_of s w) ≡ take w (drop s us)
  piece-units s zero h = refl
  piece-units s (suc w) h =
      ap (λ (l : List ℕ). get_or us s 0 ∷ l) (piece-units (suc s) w (omega arith))
      ∙ ap (take (suc w)) (sym (drop-cons us s 0 (omega arith)))

  piece-long : (s w : ℕ) → s + w ≤ length us → length (take w (drop s us)) ≡ w
  piece-long s w h = length-take-le w (drop s us) (omega (arith, length-drop s us))

  -- behind a whole piece of w units the rest decides
  past : (ps vs : List ℕ) (w n : ℕ) → length ps ≡ w → paired ps ≡ true → w ≤ n → splits_pair (ps ++ vs) n ≡ splits_pair vs (n - w)
  past ps vs w n e p h =
      let k : n ≡ length ps + (n - w) = omega arith in
      ap (splits_pair (ps ++ vs)) k ∙ splits-behind ps vs (n - w) p

  -- a piece in front: the piece decides where the index falls into it, else the rest
  behind : (ps vs : List ℕ) (w n : ℕ) → length ps ≡ w → paired ps ≡ true → splits_pair (ps ++ vs) n ≡ cond (ltb n w) (splits_pair ps n) (splits_pair vs (n - w))
  behind ps vs w n e p = go (ltb n w) refl
    where
      go : (b : Bool) → ltb n w ≡ b → splits_pair (ps ++ vs) n ≡ cond b (splits_pair ps n) (splits_pair vs (n - w))
      go true t = splits-append ps vs n (let l = ltb-true n w t in omega arith)
      go false t = past ps vs w n e p (ltb-false n w t)

  none-used : (l : List Item) (n : ℕ) (x : Bool) → splits_pair (visible_units us l) n ≡ cond (ltb n 0) x (splits_pair (visible_units us l) (n - 0))
  none-used l n x = rw (le-ltb n 0 (omega arith), sub-zero n)

  -- one item in front
  front : (d a g : Bool) (k : ℕ) (w : What) (l : List Item) (n : ℕ) → Fits (length us) w → PairedWhat us w
      → splits_pair (map (unit_at us) (cond (not d) (glyphs w) [] ++ seen_glyphs l)) n ≡ cond (ltb n (cond d 0 (width w))) (cuts_piece us w n) (splits_pair (visible_units us l) (n - cond d 0 (width w)))
  front true a g k w l n f p = none-used l n (cuts_piece us w n)
  front false a g k (text s w) l n f p =
      ap (λ (z : List ℕ). splits_pair z n) (map-append (unit_at us) (units_of s w) (seen_glyphs l) ∙ ap (λ (z : List ℕ). z ++ visible_units us l) (piece-units s w f.1))
      ∙ behind (take w (drop s us)) (visible_units us l) w n (piece-long s w f.1) p
  front false a g k (embed e) l n f p = behind (0 ∷ []) (visible_units us l) 1 n refl refl ∙ go n
    where
      go : (i : ℕ) → cond (ltb i 1) (splits_pair (0 ∷ []) i) (splits_pair (visible_units us l) (i - 1)) ≡ cond (ltb i 1) false (splits_pair (visible_units us l) (i - 1))
      go zero = refl
      go (suc i) = rw (le-ltb (suc i) 1 (omega arith))
  front false a g k (mark j v) l n f p = none-used l n false

  pub seam : (l : List Item) (n : ℕ) → AllFit (length us) l → AllPaired us l → splits_pair (visible_units us l) n ≡ cut_at us n l
  unfolding cut_at
  seam [] n f p = splits-end [] n (omega arith)
  seam (i ∷ l) n f p =
      front i.flags.dead i.flags.added i.flags.gone i.num i.what l n f.1 p.0
      ∙ ap (λ (z : Bool). cond (ltb n (uses i)) (cuts_piece us i.what n) z) (seam l (n - uses i) f.2 p.1)

-- Format cell by cell: what the cell with a given number is afterwards.
use Prim.Native.Nat.{ℕ, zero, suc, ◌+◌, ◌-◌, ◌≤◌, ◌<◌}
use mathlib.Core.Path.{◌≡◌, refl, sym, ap, ◌∙◌, subst}
use mathlib.Core.List.{List, [], ◌∷◌, ◌++◌, map, append_assoc}
use native.Mathlib.Omega.{arith}
use lib.ListN.{length, get_or, take, drop, length-take, length-drop, get_or-append}
use lib.Seq.{get_or-append-add, get_or-take, get_or-drop, length-take-le}
use Rattle.sets.specs.Sets.{Set, keys}
use Rattle.rules.specs.Reading.{live, Cell, cells, lay_cell, visible}
use Rattle.rules.specs.Calls.{Sheet, format_range, call}
use Rattle.rules.specs.Rulings.{Within}
use Rattle.rules.specs.Shows.{Formatted}
use Rattle.laws.proofs.Lists.{In}
use Rattle.laws.proofs.Shows.{call-cells, visible-cells}

module _ (g : Cell → Cell) (d : Cell) where
  -- the first n cells changed by g
  front-in : (n p : ℕ) (cs : List Cell) → p < n → p < length cs → get_or (map g (take n cs) ++ drop n cs) p d ≡ g (get_or cs p d)
  front-in n p [] h h' = absurd (omega arith)
  front-in zero p (c ∷ cs) h h' = absurd (omega arith)
  front-in (suc n) zero (c ∷ cs) h h' = refl
  front-in (suc n) (suc p) (c ∷ cs) h h' = front-in n p cs (omega arith) (omega arith)

  front_out : (n p : ℕ) (cs : List Cell) → n ≤ p → p < length cs → get_or (map g (take n cs) ++ drop n cs) p d ≡ get_or cs p d
  front_out n p [] h h' = absurd (omega arith)
  front_out zero p (c ∷ cs) h h' = refl
  front_out (suc n) zero (c ∷ cs) h h' = absurd (omega arith)
  front_out (suc n) (suc p) (c ∷ cs) h h' = front_out n p cs (omega arith) (omega arith)

  -- a range from i on
  module _ (i n : ℕ) (cs : List Cell) where
    abbrev ranged : List Cell
    ranged = take i cs ++ map g (take n (drop i cs)) ++ drop n (drop i cs)

    apart : ranged ≡ take i cs ++ (map g (take n (drop i cs)) ++ drop n (drop i cs))
    apart = append_assoc (take i cs) (map g (take n (drop i cs))) (drop n (drop i cs))

    behind : (p : ℕ) → i ≤ p → p < length cs → get_or ranged p d ≡ get_or (map g (take n (drop i cs)) ++ drop n (drop i cs)) (p - i) d
    behind p h h' =
        let l : length (take i cs) ≡ i = length-take-le i cs (omega arith) in
        let e : p ≡ length (take i cs) + (p - i) = omega arith in
        ap (λ (x : List Cell). get_or x p d) apart ∙ ap (λ (k : ℕ). get_or (take i cs ++ (map g (take n (drop i cs)) ++ drop n (drop i cs))) k d) e
        ∙ get_or-append-add (take i cs) (map g (take n (drop i cs)) ++ drop n (drop i cs)) (p - i) d

    right_of : (p : ℕ) → i ≤ p → get_or (drop i cs) (p - i) d ≡ get_or cs p d
    right_of p h = let e : i + (p - i) ≡ p = omega arith in get_or-drop i cs (p - i) d ∙ ap (λ (k : ℕ). get_or cs k d) e

    at : (p : ℕ) → p < length cs → Formatted i n g cs ranged d p
    at p k = record {
      left = λ h.
          ap (λ (x : List Cell). get_or x p d) apart
          ∙ get_or-append (take i cs) (map g (take n (drop i cs)) ++ drop n (drop i cs)) d p (omega (arith, length-take i cs))
          ∙ get_or-take i cs p d h;
      inside = λ h h'. behind p h k ∙ front-in n (p - i) (drop i cs) (omega arith) (omega (arith, length-drop i cs)) ∙ ap g (right_of p h);
      right = λ h. behind p (omega arith) k ∙ front_out n (p - i) (drop i cs) (omega arith) (omega (arith, length-drop i cs)) ∙ right_of p (omega arith);
    }

-- Every visible cell after an accepted format.
pub format_points : (j : ℕ) → In j keys → (i n : ℕ) (a : Set) (s : Sheet) → Within s → (call (format_range i n a) s).refusal ≡ 0 → (d : Cell) (p : ℕ) → p < visible s.items
    → Formatted i n (lay_cell (a j)) (cells live j 0 s.items) (cells live j 0 (call (format_range i n a) s).sheet.items) d p
format_points j jk i n a s w e d p h =
    subst (λ (x : List Cell). Formatted i n (lay_cell (a j)) (cells live j 0 s.items) x d p) (sym (call-cells j jk (format_range i n a) s w e))
    (at (lay_cell (a j)) d i n (cells live j 0 s.items) p (omega (arith, visible-cells j 0 s.items)))

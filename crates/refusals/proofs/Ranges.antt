-- Ranges: what is wrong with a removal, and what the rules ask for. Assumes nothing.
use Prim.Native.Nat.{ℕ, zero, suc, ◌-◌, ◌<◌, ◌≤◌}
use native.Mathlib.Omega.{arith}
use mathlib.Core.Path.{◌≡◌, refl, sym, ap, ◌∙◌}
use mathlib.Core.Bool.{Bool, true, false, cond}
use mathlib.Core.List.{List}
use lib.ListN.{length}
use borrow.Author.Tests.{lt-ltb, le-ltb}
use Rattle.rules.specs.Edits.{by_index, remove_here}
use Rattle.rules.specs.Calls.{Sheet, bad_range, too_long, remove_range}
use Rattle.rules.specs.Rulings.{Ruling, seen, as_is, ruling}
use Rattle.refusals.specs.Ranges.{removal_fault}

-- of a range that cuts no pair its length decides
module _ (us : List ℕ) (i n : ℕ) (e : ◌≡◌ {A = ℕ} 0 (cond (bad_range us i n) 2 0)) where
  no-pair : removal_fault us i n ≡ cond (too_long us i n) 1 0
  no-pair = go (bad_range us i n) e
    where
      go : (b : Bool) → ◌≡◌ {A = ℕ} 0 (cond b 2 0) → ◌≡◌ {A = ℕ} (cond b 2 (cond (too_long us i n) 1 0)) (cond (too_long us i n) 1 0)
      go true q = absurd (omega (arith, q))
      go false q = refl

  pub fault-short : length us - i < n → 1 ≡ removal_fault us i n
  fault-short l = sym (no-pair ∙ ap (λ (b : Bool). cond b 1 0) (lt-ltb (length us - i) n l))

  pub fault-none : n ≤ length us - i → 0 ≡ removal_fault us i n
  fault-none l = sym (no-pair ∙ ap (λ (b : Bool). cond b 1 0) (le-ltb (length us - i) n l))

-- ---- what the rules ask for
pub remove_quiet : (i n f : ℕ) (s : Sheet) → n ≡ 0 → f ≡ removal_fault (seen s) i n → f ≡ 0 → ruling (remove_range i n) s ≡ as_is s
remove_quiet i zero f s z e none = ap (λ (k : ℕ). record { fault = k; place = (as_is s).place; units = s.units }) (sym e ∙ none)
remove_quiet i (suc n) f s z e none = absurd (omega arith)

abbrev pub remove_ruled : ℕ → ℕ → Sheet → Ruling
remove_ruled i n s = record { fault = removal_fault (seen s) i n; place = by_index i (remove_here n) s.items s.next; units = s.units }

pub remove-ruled : (i n : ℕ) (s : Sheet) → (n ≡ 0 → ⊥) → ruling (remove_range i n) s ≡ remove_ruled i n s
remove-ruled i zero s some = absurd (some refl)
remove-ruled i (suc n) s some = refl

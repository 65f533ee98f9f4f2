-- The visible length of a list, item by item. Assumes nothing.
use Prim.Native.Nat.{ℕ, zero, suc, ◌+◌, ◌-◌, ◌<◌, ◌≤◌}
use native.Mathlib.Omega.{arith}
use mathlib.Core.Path.{◌≡◌, refl, ap, ◌∙◌}
use mathlib.Core.Bool.{Bool, true, false, cond, not}
use mathlib.Core.List.{List, [], ◌∷◌}
use lib.ListN.{length}
use Rattle.rules.specs.Sheet.{What, text, embed, mark, width, Item}
use Rattle.rules.specs.Sound.{held}
use Rattle.rules.specs.Reading.{visible}
use Rattle.layout.specs.declared.head.Head.{Head}
use Rattle.layout.specs.Chain.{item_at, next_at, chain}
use Rattle.layout.specs.Memory.{list_of, len_of, Sound}
use Rattle.layout.specs.Word.{shown_len}
use Rattle.layout.proofs.Links.{chain-step, length-chain}
use Rattle.layout.proofs.Soundness.{held_cons}

shown-is : (d : Bool) (w : What) → cond (not d) (width w) 0 ≡ shown_len d w
shown-is true w = refl
shown-is false w = refl

pub visible-step : (k : ℕ) (m : List ℕ) (s : ℕ) → 0 < k → visible (chain k m s) ≡ shown_len (item_at m s).flags.dead (item_at m s).what + visible (chain (k - 1) m (next_at m s))
visible-step k m s h = ap visible (chain-step k m s h) ∙ ap (λ (n : ℕ). n + visible (chain (k - 1) m (next_at m s))) (shown-is (item_at m s).flags.dead (item_at m s).what)

pub visible-end : (k : ℕ) (m : List ℕ) (s n : ℕ) → k ≤ 0 → n + visible (chain k m s) ≡ n
unfolding chain
visible-end zero m s n h = omega arith
visible-end (suc k) m s n h = absurd (omega arith)

pub shown-le : (d : Bool) (w : What) → shown_len d w ≤ len_of w + 1
shown-le true w = omega arith
shown-le false (text s n) = omega arith
shown-le false (embed e) = omega arith
shown-le false (mark k v) = omega arith

-- at most the texts' units, and one for each item
visible-le : (l : List Item) → visible l ≤ held l + length l
visible-le [] = omega arith
visible-le (i ∷ l) = omega (arith, shown-is i.flags.dead i.what, shown-le i.flags.dead i.what, held_cons i l, visible-le l)

pub visible-room : (h : Head) (m u : List ℕ) → Sound h m u → visible (list_of h m) ≤ 18432
visible-room h m u ok = omega (arith, visible-le (list_of h m), ok.whole, ok.used, ok.items, length-chain h.items m h.first)

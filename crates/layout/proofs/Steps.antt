-- The items that an iterator gives, a step at a time; and of sound links they are the list. Assumes nothing.
use Prim.Native.Nat.{ℕ, zero, suc, ◌-◌, ◌<◌, ◌≤◌}
use native.Mathlib.Omega.{arith}
use mathlib.Core.Path.{◌≡◌, refl, ap, ◌∙◌}
use mathlib.Core.Bool.{true}
use mathlib.Core.List.{List, [], ◌∷◌, map}
use lib.ListN.{length, get_or}
use borrow.Author.Tests.{lt-ltb, le-ltb}
use Rattle.std.proofs.lemmas.Grind.{get_or_default_zero}
use Rattle.rules.specs.Sheet.{Item}
use Rattle.layout.specs.Word.{unpack_of}
use Rattle.layout.specs.Chain.{next_at, chain, walks}
use Rattle.layout.specs.Steps.{steps, as_listed}
use Rattle.layout.proofs.Links.{walks_parts}

pub steps-end : (k : ℕ) (m : List ℕ) (s : ℕ) → k ≤ 0 → steps k m s ≡ []
unfolding steps
steps-end zero m s h = refl
steps-end (suc k) m s h = absurd (omega arith)

pub steps-out : (k : ℕ) (m : List ℕ) (s : ℕ) → length m ≤ s → steps k m s ≡ []
unfolding steps
steps-out zero m s h = refl
steps-out (suc k) m s h = rw (le-ltb s (length m) h)

-- w is the word that is read
pub steps-more : (k : ℕ) (m : List ℕ) (s w : ℕ) → 0 < k → s < length m → w ≡ get_or m s w → steps k m s ≡ (s, unpack_of w) ∷ steps (k - 1) m (unpack_of w).next
unfolding steps
steps-more zero m s w h l r = absurd (omega arith)
steps-more (suc k) m s w h l r =
    let e : suc k - 1 ≡ k = omega arith in
    let z : w ≡ get_or m s 0 = r ∙ get_or_default_zero m s w l in
    rw (e, lt-ltb s (length m) l, z)

pub steps-chain : (b k : ℕ) (m : List ℕ) (s : ℕ) → b ≤ length m → walks b k m s ≡ true → map as_listed (steps k m s) ≡ chain k m s
unfolding steps chain
steps-chain b zero m s h p = refl
steps-chain b (suc k) m s h p =
    let q = walks_parts b k m s p in
    rw (lt-ltb s (length m) (omega (arith, q.0))) (ap (λ (l : List Item). as_listed (s, unpack_of (get_or m s 0)) ∷ l) (steps-chain b k m (next_at m s) h q.1))

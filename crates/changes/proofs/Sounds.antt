-- A sound sheet can be loaded. Assumes nothing.
use Prim.Native.Nat.{ℕ, ◌≤◌}
use native.Mathlib.Omega.{arith}
use mathlib.Core.Path.{◌≡◌, refl}
use mathlib.Core.Bool.{true}
use mathlib.Core.List.{List}
use lib.ListN.{get_or}
use Rattle.layout.specs.declared.head.Head.{Head}
use Rattle.layout.specs.declared.word.Content.{Content}
use Rattle.layout.specs.declared.word.Content.TheVariants.{Text, Embed, Mark}
use Rattle.layout.specs.Word.{what_of, unpack_of, Fitting}
use Rattle.layout.specs.Memory.{what_ok, word_ok, sound_of}
use Rattle.layout.proofs.Words.{fitting-unpack}
use Rattle.layout.proofs.Soundness.{sound-parts, piece-parts, mark-parts, word-parts}
use Rattle.layout.proofs.Stored.{range-parts}
use Rattle.layout.proofs.Models.{sound-word}
use Rattle.arena.specs.Places.{InRange, Neat}
use Rattle.changes.specs.Frame.{Loadable}

-- ---- its words are neat
ok-range : (u : List ℕ) (used : ℕ) (c : Content) → used ≤ 16384 → Fitting c → what_ok u used (what_of c) ≡ true → InRange c
ok-range u used (Text s l) few f e = let p = piece-parts u used s l e in (p.0, omega (arith, p.1))
ok-range u used (Embed n) few f e = f
ok-range u used (Mark k v) few f e = mark-parts u used k v e

ok-neat : (u : List ℕ) (used w : ℕ) → used ≤ 16384 → word_ok u used w ≡ true → Neat w
ok-neat u used w few e =
    let p = word-parts u used w e in
    let r = range-parts w p.0 in
    record { small = r.0; kind = r.1; range = ok-range u used (unpack_of w).content few (fitting-unpack w (unpack_of w) refl) p.2 }

module _ (h : Head) (m u : List ℕ) (ok : sound_of h m u ≡ true) where
  pub sound-loads : Loadable h m
  sound-loads =
      let s = sound-parts h m u ok in
      record { words = s.words; items = s.items; walk = s.walk; neat = λ n l. ok-neat u h.units (get_or m n 0) s.used (sound-word h m u s n l) }

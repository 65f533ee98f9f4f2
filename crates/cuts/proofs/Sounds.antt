-- What is read of a sheet: a sound one for pairs, any one for its length. Assumes nothing.
use Prim.Native.Nat.{ℕ}
use native.Mathlib.Omega.{arith}
use mathlib.Core.Path.{◌≡◌, sym, ◌∙◌}
use mathlib.Core.Bool.{true}
use mathlib.Core.List.{List}
use lib.ListN.{length, take}
use Rattle.rules.specs.Reading.{visible}
use Rattle.rules.specs.Rulings.{seen}
use Rattle.laws.proofs.Shows.{length_seen}
use Rattle.layout.specs.declared.head.Head.{Head}
use Rattle.layout.specs.Memory.{list_of, model_of, sound_of}
use Rattle.layout.proofs.Soundness.{sound-parts}
use Rattle.layout.proofs.Models.{used-length, model-sound}
use Rattle.cuts.specs.Cuts.{Readable}

-- the length that is read is the rules'
pub length-is : (h : Head) (m u : List ℕ) (n : ℕ) → n ≡ visible (list_of h m) → n ≡ length (seen (model_of h m u))
length-is h m u n e = e ∙ sym (length_seen (model_of h m u))

module _ (h : Head) (m u : List ℕ) (ok : sound_of h m u ≡ true) where
  pub used-is : h.units ≡ length (take h.units u)
  used-is = sym (used-length h m u (sound-parts h m u ok))

  pub sound-reads : Readable h m (take h.units u)
  sound-reads =
      let s = sound-parts h m u ok in
      let k = model-sound h m u s in
      record { few = omega (arith, s.words, s.items); low = s.items; walk = s.walk; fit = k.list.fit; pairs = k.pairs }

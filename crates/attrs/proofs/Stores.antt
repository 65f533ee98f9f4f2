-- One key stored: what the code's writes to a mask and its bytes make of a set.
use mathlib.Core.Path.{◌≡◌, refl, sym, ap, ap₂, ◌∙◌}
use mathlib.Core.Bool.{Bool, true, false, cond, not, true≢false}
use Prim.Native.Nat.{ℕ, ◌-◌, ◌^◌, ◌<◌}
use native.Mathlib.Omega.{arith}
use lib.Dec.{eqb, ltb}
use lib.ListN.{set, length-set}
use lib.Seq.{get_or-set_same, get_or-set_other}
use borrow.Author.Tests.{ltb-true, ltb-false, eqb-true, eqb-false}
use Rattle.attrs.specs.declared.Attrs.{Attrs}
use Rattle.sets.specs.Sets.{Slot, absent, is, at, is_absent}
use Rattle.sets.specs.Bits.{bit, BitSet}
use Rattle.attrs.specs.Packed.{Held, hidden, holds, held, look, flag, store, says, onto, Whole}
use Rattle.sets.proofs.Bits.{bit_clear-same, bit_clear-other, at_key, at_same, at_other}
use Rattle.attrs.proofs.Looks.{flag-look}
use Rattle.attrs.proofs.Says.{says_at, says_past, store-seen, is-onto, onto_same}
use Rattle.attrs.proofs.Slots.{has-bit}

-- a set that changed at the key k alone
changed-at : (r a : Attrs) (k : ℕ) (x : Slot) → Whole r → look r k ≡ store x (look a k) → ((j : ℕ) → (j ≡ k → ⊥) → look r j ≡ look a j)
    → r ≡ onto a (at k x (says a))
changed-at r a k x w here other = is-onto r a (at k x (says a)) w (λ j l. go j l (eqb j k) refl)
  where
    go : (j : ℕ) → j < 16 → (t : Bool) → eqb j k ≡ t → look r j ≡ store (cond t x (says a j)) (look a j)
    go j l true e = rw (eqb-true j k e) here
    go j l false e =
        other j (eqb-false j k e) ∙ sym (ap (λ (y : Slot). store y (look a j)) (says_at a j l) ∙ store-seen (look a j))

module _ (a : Attrs) (m k v : ℕ) (w : Whole a) (l : k < 16) (f : m < 2 ^ 16) where
  written : (b : ℕ) (x : Slot) → bit m k ≡ b → ((j : ℕ) → (j ≡ k → ⊥) → bit m j ≡ bit a.mask j) → held b v ≡ store x (look a k)
      → record { mask = m; values = set a.values k v } ≡ onto a (at k x (says a))
  unfolding look
  written b x here other e =
      changed-at (record { mask = m; values = set a.values k v }) a k x
      (record { fits = f; long = simp length-set w.long })
      (ap₂ held here (get_or-set_same a.values k v 0 (omega (arith, w.long))) ∙ e)
      (λ j n. ap₂ held (other j n) (get_or-set_other a.values k j v 0 n))

  pub put_holds : BitSet a.mask k m → record { mask = m; values = set a.values k v } ≡ onto a (at k (is v) (says a))
  put_holds p =
      written 1 (is v) (p.each k ∙ at_same k 1 (bit a.mask)) (λ j n. p.each j ∙ at_other k j 1 (bit a.mask) n) refl

pub put-gone : (a : Attrs) (k : ℕ) → Whole a → k < 16 → bit a.mask k ≡ 1
    → record { mask = a.mask - 2 ^ k; values = set a.values k 0 } ≡ onto a (at k absent (says a))
put-gone a k w l e =
    written a (a.mask - 2 ^ k) k 0 w l (omega (arith, w.fits)) 0 absent (bit_clear-same a.mask k e)
    (λ j n. bit_clear-other a.mask k j e n) (go (look a k) (flag-look a k ∙ e))
  where
    go : (h : Held) → flag h ≡ 1 → hidden 0 ≡ store absent h
    go (hidden v) q = absurd (omega arith)
    go (holds v) q = refl

-- a key that is not there cannot go
pub none-gone : (a : Attrs) (k : ℕ) → Whole a → not (is_absent (says a k)) ≡ false → a ≡ onto a (at k absent (says a))
none-gone a k w e = onto_same a (at k absent (says a)) w (λ j l. sym (at_key k absent (says a) (says a) (gone (says a k) e) (λ i n. refl) j))
  where
    gone : (s : Slot) → not (is_absent s) ≡ false → s ≡ absent
    gone absent q = refl
    gone (is v) q = absurd (true≢false q)

-- a key that is there is below 16, and its bit is set
pub there : (a : Attrs) (k : ℕ) → not (is_absent (says a k)) ≡ true → (k < 16) × (bit a.mask k ≡ 1)
there a k e = go (ltb k 16) refl
  where
    go : (b : Bool) → ltb k 16 ≡ b → (k < 16) × (bit a.mask k ≡ 1)
    go true q = let l = ltb-true k 16 q in (l, eqb-true (bit a.mask k) 1 (sym (has-bit a k l) ∙ e))
    go false q = absurd (true≢false (sym e ∙ ap (λ (s : Slot). not (is_absent s)) (says_past a k (ltb-false k 16 q))))

-- What a kind and a payload say, kind by kind. Assumes nothing.
use Prim.Native.Nat.{ℕ, ◌/◌, ◌%◌}
use native.Mathlib.Omega.{arith}
use mathlib.Core.Path.{◌≡◌, refl, sym, ap, ◌∙◌}
use mathlib.Core.Bool.{Bool, true, false, cond, ◌&&◌}
use mathlib.Core.List.{List}
use lib.Dec.{eqb, ltb}
use borrow.Author.Tests.{eq-eqb, ne_eqb, lt-ltb}
use Rattle.rules.specs.Sheet.{text, embed, mark, width}
use Rattle.layout.specs.declared.word.Content.{Content}
use Rattle.layout.specs.declared.word.Content.TheVariants.{Text, Embed, Mark}
use Rattle.layout.specs.Word.{what_of, content_from}
use Rattle.layout.specs.Memory.{len_of, what_ok}

module _ (k p : ℕ) where
  other : (k ≡ 0 → ⊥) → content_from k p ≡ cond (eqb k 1) (Embed p) (Mark (p % 16) (p / 16))
  other n = ap (λ (b : Bool). cond b (Text (p % 16384) (p / 16384)) (cond (eqb k 1) (Embed p) (Mark (p % 16) (p / 16)))) (ne_eqb k 0 n)

  pub as-text : k ≡ 0 → what_of (content_from k p) ≡ text (p % 16384) (p / 16384)
  as-text e = ap (λ (b : Bool). what_of (cond b (Text (p % 16384) (p / 16384)) (cond (eqb k 1) (Embed p) (Mark (p % 16) (p / 16))))) (eq-eqb k 0 e)

  pub as-embed : k ≡ 1 → what_of (content_from k p) ≡ embed p
  as-embed e = ap what_of (other (λ z. omega (arith, e, z)) ∙ ap (λ (b : Bool). cond b (Embed p) (Mark (p % 16) (p / 16))) (eq-eqb k 1 e))

  pub as-mark : (k ≡ 0 → ⊥) → (k ≡ 1 → ⊥) → what_of (content_from k p) ≡ mark (p % 16) (p / 16)
  as-mark n m = ap what_of (other n ∙ ap (λ (b : Bool). cond b (Embed p) (Mark (p % 16) (p / 16))) (ne_eqb k 1 m))

  -- only a text has units
  pub no_text : (k ≡ 0 → ⊥) → len_of (what_of (content_from k p)) ≡ 0
  no_text n = ap (λ (c : Content). len_of (what_of c)) (other n) ∙ go (eqb k 1)
    where
      go : (b : Bool) → len_of (what_of (cond b (Embed p) (Mark (p % 16) (p / 16)))) ≡ 0
      go true = refl
      go false = refl

  -- an embed alone is longer than its units
  pub no-embed : (k ≡ 1 → ⊥) → len_of (what_of (content_from k p)) ≡ width (what_of (content_from k p))
  no-embed m = go (eqb k 0) ∙ sym (ap (λ (b : Bool). width (what_of (cond (eqb k 0) (Text (p % 16384) (p / 16384)) (cond b (Embed p) (Mark (p % 16) (p / 16)))))) (ne_eqb k 1 m))
    where
      go : (b : Bool) → len_of (what_of (cond b (Text (p % 16384) (p / 16384)) (cond (eqb k 1) (Embed p) (Mark (p % 16) (p / 16))))) ≡ width (what_of (cond b (Text (p % 16384) (p / 16384)) (Mark (p % 16) (p / 16))))
      go true = refl
      go false = ap (λ (b : Bool). len_of (what_of (cond b (Embed p) (Mark (p % 16) (p / 16))))) (ne_eqb k 1 m)

  pub mark-ok : (u : List ℕ) (used : ℕ) → (k ≡ 0 → ⊥) → (k ≡ 1 → ⊥) → ltb (p / 16) 256 ≡ what_ok u used (what_of (content_from k p))
  unfolding what_ok
  mark-ok u used n m =
      sym (ap (what_ok u used) (as-mark n m) ∙ ap (λ (b : Bool). b && ltb (p / 16) 256) (lt-ltb (p % 16) 16 (omega arith)))

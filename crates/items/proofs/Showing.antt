-- The visible length and the text of one item, by the cases of the code. Assumes nothing.
use Prim.Native.Nat.{ℕ, ◌+◌, ◌-◌, ◌<◌, ◌≤◌}
use native.Mathlib.Nat.{add-sub_cancel_left}
use native.Mathlib.Omega.{arith}
use mathlib.Core.Path.{◌≡◌, refl, sym, ap, ◌∙◌}
use mathlib.Core.Bool.{true, false}
use mathlib.Core.List.{List, []}
use lib.ListN.{length, get_or, take, drop}
use borrow.Author.Tests.{lt-ltb, le-ltb}
use Rattle.std.specs.Prelude.{Option, Some, None}
use Rattle.std.specs.Option.{ok_or}
use Rattle.refusal.specs.declared.Refusal.TheVariants.{Broken}
use Rattle.rules.specs.Sheet.{text}
use Rattle.rules.specs.Reading.{visible}
use Rattle.layout.specs.declared.head.Head.{Head}
use Rattle.layout.specs.declared.word.Content.{Content}
use Rattle.layout.specs.declared.word.Content.TheVariants.{Text, Embed, Mark}
use Rattle.layout.specs.declared.word.Item.{Item as Unpacked}
use Rattle.layout.specs.Word.{what_of, unpack_of}
use Rattle.layout.specs.Memory.{list_of, what_ok, sound_of}
use Rattle.soundness.specs.Walk.{told as measured, measure_of}
use Rattle.soundness.proofs.Measures.{sound-is, len_is}
use Rattle.items.specs.Calls.{told, length_of, piece_of, text_of}
use Rattle.layout.proofs.Soundness.{piece-parts, word-parts, sound-parts}
use Rattle.layout.proofs.Models.{sound-word}

module _ (h : Head) (m u : List ℕ) where
  pub length-broken : sound_of h m u ≡ false → record { refusal = 9; len = 0 } ≡ length_of h m u
  unfolding length_of
  length-broken e = rw e

  pub length-is : (n : ℕ) → sound_of h m u ≡ true → n ≡ visible (list_of h m) → record { refusal = 0; len = n } ≡ length_of h m u
  unfolding length_of
  length-is n e v = rw (e, v)

  -- as the measure says it
  pub length-told : (o : Option ℕ) → measured o ≡ measure_of h m u → told (ok_or o Broken) ≡ length_of h m u
  length-told None e = length-broken (sym (sound-is h m u _ e))
  length-told (Some n) e =
      let ok = sym (sound-is h m u _ e) in
      length-is n ok (len_is h m u _ e ok)

-- ---- the text of one item
module _ (h : Head) (m u : List ℕ) (n : ℕ) where
  pub text-broken : sound_of h m u ≡ false → [] ≡ text_of h m u n
  unfolding text_of
  text-broken e = rw e

  pub text-unused : sound_of h m u ≡ true → h.items ≤ n → [] ≡ text_of h m u n
  unfolding text_of
  text-unused e l = rw (e, le-ltb n h.items l)

  module _ (it : Unpacked) (c : Content) (e : sound_of h m u ≡ true) (l : n < h.items) (is : it ≡ unpack_of (get_or m n 0)) (holds : it.content ≡ c) where
    content-is : (unpack_of (get_or m n 0)).content ≡ c
    content-is = ap (λ (x : Unpacked). x.content) (sym is) ∙ holds

    pub text-is : text_of h m u n ≡ piece_of u (what_of c)
    unfolding text_of
    text-is = rw (e, lt-ltb n h.items l, content-is)

  -- a text that is used lies in the units
  pub text-room : (it : Unpacked) (s k : ℕ) → sound_of h m u ≡ true → n < h.items → it ≡ unpack_of (get_or m n 0) → it.content ≡ Text s k → s + k ≤ length u
  text-room it s k e l is holds =
      let p = sound-parts h m u e in
      let q : what_ok u h.units (text s k) ≡ true = rw (content-is it (Text s k) e l is holds) at (word-parts u h.units (get_or m n 0) (sound-word h m u p n l)).2 in
      omega (arith, (piece-parts u h.units s k q).1, p.used, p.room)

-- only a text has one
pub no_text : (u : List ℕ) (c : Content) → ((s k : ℕ) → c ≡ Text s k → ⊥) → [] ≡ piece_of u (what_of c)
no_text u (Text s k) n = absurd (n s k refl)
no_text u (Embed e) n = refl
no_text u (Mark k v) n = refl

pub text-part : (u : List ℕ) (s k : ℕ) → take (s + k - s) (drop s u) ≡ piece_of u (text s k)
text-part u s k = rw (add-sub_cancel_left s k)

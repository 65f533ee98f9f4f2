-- A sound table stays sound, whatever is asked of it. Assumes nothing.
use Prim.Native.Nat.{ℕ, ◌+◌, ◌*◌, ◌<◌, ◌≤◌}
use native.Mathlib.Omega.{arith}
use mathlib.Core.Path.{◌≡◌, refl, sym, ◌∙◌}
use mathlib.Core.Logic.{◌⊎◌, inr}
use mathlib.Core.Bool.{Bool, true, false, cond}
use mathlib.Core.List.{List, ◌∷◌}
use lib.ListN.{length, get_or}
use lib.Dec.{eqb, ltb, leb}
use borrow.Author.Tests.{eqb-true, le-leb}
use Rattle.entries.specs.Entry.{entries, put_at}
use Rattle.entries.specs.Order.{fits, fits_at}
use Rattle.table.specs.Value.{Value, bool, int, string, kind_of, content_of}
use Rattle.table.specs.Ask.{too_long}
use Rattle.entries.proofs.Entries.{length-entries}
use Rattle.entries.proofs.Seeks.{distinct_more}
use Rattle.entries.proofs.Puts.{put-size, put-kind, put_first, put-entry, put_entries, put_fit, entries-more, fit-more}
use Rattle.entries.proofs.Bytes.{length-low}
use Rattle.table.proofs.Tables.{Shelved}
use Rattle.table.proofs.Asks.{New, fine_short}

-- ---- what is asked for, if it is not too long, is in order
unfoldable pub Shape : ℕ → List ℕ → Type 0
Shape k c = (b : ℕ) → (0 < length c → b ≡ get_or c 0 0) → too_long k (length c) ≡ false → fits k (length c) b ≡ true

pub name_shape : (c : List ℕ) → Shape 0 c
unfolding Shape fits too_long
name_shape c b e f = go (eqb (length c) 0) refl (fine_short 0 (length c) f)
  where
    go : (t : Bool) → eqb (length c) 0 ≡ t → length c ≤ 32 → cond t false (leb (length c) 32) ≡ true
    go true g h =
        let none : length c ≡ 0 = eqb-true (length c) 0 g in
        let wrong : too_long 0 0 ≡ false = rw none at f in
        absurd (let z : ◌≡◌ {A = ℕ} 0 1 = cc in omega arith)
    go false g h = le-leb (length c) 32 h

pub value_shape : (v : Value) → Shape (kind_of v) (content_of v)
unfolding Shape fits kind_of content_of
value_shape (bool true) b e f = rw (e (omega arith))
value_shape (bool false) b e f = rw (e (omega arith))
value_shape (int z) b e f = rw (length-low 8)
value_shape (string c) b e f = le-leb (length c) 32 (fine_short 3 (length c) f)

module _ (m : List ℕ) (k : ℕ) (c : List ℕ) (full : length m ≡ 9214) (fine : too_long k (length c) ≡ false) (shape : Shape k c) where
  new-fits : (t : ℕ) → t < 271 → ltb t 16 ≡ eqb k 0 → fits_at (put_at m t k c) t ≡ true
  unfolding fits_at Shape
  new-fits t h side =
      let short = fine_short k (length c) fine in
      let fit = shape (get_or (put_at m t k c) (t * 34 + 2) 0) (put_first m t k c full h short) fine in
      rw (put-kind m t k c full h short, put-size m t k c full h short, side, fit) (go (eqb k 0))
    where
      go : (b : Bool) → cond b (cond b true false) (cond b false true) ≡ true
      go true = refl
      go false = refl

  pub shelf-grows : (s n most : ℕ) → s + most ≤ 271 → ltb (s + n) 16 ≡ eqb k 0 → New most m s n k c → Shelved m s n most → Shelved (put_at m (s + n) k c) s (n + 1) most
  shelf-grows s n most in-most side new p =
      let short = new.short in
      let left = new.left in
      let t-in : s + n < 271 = omega arith in
      let same = put_entries m (s + n) k c full t-in short s n (inr (omega arith)) in
      let last = put-entry m (s + n) k c full t-in short in
      let more = entries-more (put_at m (s + n) k c) s n in
      record {
        few = omega arith;
        fit = fit-more _ s n (put_fit m (s + n) k c full t-in short s n (inr (omega arith)) ∙ p.fit) (new-fits (s + n) t-in side);
        apart = rw (more, same, last) (distinct_more (k ∷ c) (entries m s n) p.apart (new.new ∙ sym (length-entries m s n)));
      }

  pub shelf-stays : (t s n most : ℕ) → t < 271 → (t < s) ⊎ (s + n ≤ t) → Shelved m s n most → Shelved (put_at m t k c) s n most
  shelf-stays t s n most t-in away p =
      let short = fine_short k (length c) fine in
      record {
        few = p.few;
        fit = put_fit m t k c full t-in short s n away ∙ p.fit;
        apart = rw (put_entries m t k c full t-in short s n away) p.apart;
      }

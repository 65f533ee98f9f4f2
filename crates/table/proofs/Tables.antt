-- What a sound table holds, part by part. Assumes nothing.
use Prim.Native.Nat.{ℕ, ◌+◌, ◌≤◌}
use native.Mathlib.Omega.{arith}
use mathlib.Core.Path.{◌≡◌, refl}
use mathlib.Core.Bool.{Bool, true, false, cond}
use mathlib.Core.List.{List}
use lib.ListN.{length}
use lib.Dec.{eqb, leb}
use borrow.Author.Tests.{eqb-true, leb-true, eq-eqb, le-leb}
use Rattle.std.specs.Bool.{then_some}
use Rattle.std.specs.Prelude.{MatchOption}
use Rattle.table.specs.declared.TableHead.{TableHead}
use Rattle.table.specs.declared.Shelf.{Shelf}
use Rattle.entries.specs.Entry.{entries}
use Rattle.entries.specs.Order.{all_fit, distinct, shelf_sound}
use Rattle.table.specs.Sound.{fresh_head, sound_of}
use Rattle.table.specs.Ask.{name_shelf, value_shelf, shelf_of}

pub both : (a b : Bool) → cond a b false ≡ true → (a ≡ true) × (b ≡ true)
both true b e = (refl, e)
both false b e = absurd (let z : ◌≡◌ {A = ℕ} 0 1 = cc in omega arith)

-- the slots of names, or of values
pub record Shelved (m : List ℕ) (s n most : ℕ) : Type 0 where
  pub few : n ≤ most
  pub fit : all_fit m s n ≡ true
  pub apart : distinct (entries m s n) ≡ true

pub record Sound (h : TableHead) (m : List ℕ) : Type 0 where
  pub full : length m ≡ 9214
  pub of-names : Shelved m 0 h.names 16
  pub of_values : Shelved m 16 h.values 255

pub shelf-parts : (m : List ℕ) (s n most : ℕ) → shelf_sound m s n most ≡ true → Shelved m s n most
unfolding shelf_sound
shelf-parts m s n most e =
    let p = both (leb n most) _ e in
    let q = both (all_fit m s n) _ p.1 in
    record { few = leb-true n most p.0; fit = q.0; apart = q.1 }

pub sound-parts : (h : TableHead) (m : List ℕ) → sound_of h m ≡ true → Sound h m
unfolding sound_of
sound-parts h m e =
    let p = both (eqb (length m) 9214) _ e in
    let q = both (shelf_sound m 0 h.names 16) _ p.1 in
    record {
      full = eqb-true (length m) 9214 p.0;
      of-names = shelf-parts m 0 h.names 16 q.0;
      of_values = shelf-parts m 16 h.values 255 q.1;
    }

pub shelf-whole : {m : List ℕ} {s n most : ℕ} → Shelved m s n most → shelf_sound m s n most ≡ true
unfolding shelf_sound
shelf-whole {m} {s} {n} {most} p = rw (le-leb n most p.few, p.fit) p.apart

pub sound-whole : {h : TableHead} {m : List ℕ} → Sound h m → sound_of h m ≡ true
unfolding sound_of
sound-whole {h} {m} p = rw (eq-eqb (length m) 9214 p.full, shelf-whole p.of-names) (shelf-whole p.of_values)

-- over bytes of the full size, whatever they are, no entry makes a sound table
pub fresh-sound : (m : List ℕ) → length m ≡ 9214 → sound_of fresh_head m ≡ true
unfolding sound_of shelf_sound all_fit distinct entries
fresh-sound m e = rw (eq-eqb (length m) 9214 e)

-- ---- where the entries of a kind stand
pub record Room (s : Shelf) : Type 0 where
  pub inside : s.from + s.most ≤ 271
  pub few : s.count ≤ s.most
  pub first : s.first ≤ 1

pub shelf-room : (h : TableHead) (m : List ℕ) (k : ℕ) → Sound h m → (s : Shelf) → s ≡ shelf_of h k → Room s
unfolding shelf_of
shelf-room h m k p s e = rw e (go (eqb k 0))
  where
    go : (b : Bool) → Room (cond b (name_shelf h) (value_shelf h))
    go true = record { inside = omega arith; few = p.of-names.few; first = omega arith }
    go false = record { inside = omega arith; few = p.of_values.few; first = omega arith }

-- what is shown only where a check holds
pub shown_where : {X P : Type 0} (Q : X → Type 0) (b : Bool) (x : X) → (b ≡ false → P) → (b ≡ true → Q x) → MatchOption (then_some b x) P Q
shown_where Q true x p q = q refl
shown_where Q false x p q = p refl

-- What holds of every asking of a sound table. Assumes nothing.
use Prim.Native.Nat.{ℕ, zero, suc, ◌+◌, ◌<◌, ◌≤◌}
use native.Mathlib.Nat.{add-zero}
use native.Mathlib.Omega.{arith}
use mathlib.Core.Path.{◌≡◌, refl, sym, ap, ◌∙◌}
use mathlib.Core.Logic.{◌⊎◌, inl, inr}
use mathlib.Core.Bool.{Bool, true, false, cond}
use mathlib.Core.List.{List, [], ◌∷◌, ◌++◌}
use lib.ListN.{length, get_or}
use lib.Dec.{eqb}
use borrow.Author.Tests.{lt-ltb, le-ltb}
use Rattle.entries.specs.Entry.{entry_at, entries, seek, put_at}
use Rattle.table.specs.declared.TableHead.{TableHead}
use Rattle.table.specs.declared.Shelf.{Shelf}
use Rattle.std.specs.Prelude.{Option, Some, None, Result, Ok, Err}
use Rattle.refusal.specs.declared.Refusal.{Refusal}
use Rattle.table.specs.Ask.{name_shelf, value_shelf, shelf_of, one_name, one_value, grown_of, too_long, asking_of, Outcome, outcome, ask_of}
use Rattle.entries.proofs.Entries.{length-entries}
use Rattle.entries.proofs.Seeks.{seek_own, seek-more}
use Rattle.entries.proofs.Puts.{put-length, put-entry, put_entries, other-entry, entries-more}
use Rattle.table.proofs.Tables.{Shelved, Sound, sound-whole, shelf-room}
use Rattle.table.proofs.Asks.{New, known_facts, refused-number, fresh-facts, is_known, ask_case}
use Rattle.table.proofs.Grown.{Shape, shelf-grows, shelf-stays}

-- the entries of a kind, in the order of their numbers
abbrev pub kindred : TableHead → List ℕ → ℕ → List (List ℕ)
kindred h m k = entries m (shelf_of h k).from (shelf_of h k).count

-- an accepted asking: its number is that of the first, and only, entry of the kind that equals it
pub record Placed (h : TableHead) (k : ℕ) (c : List ℕ) (o : Outcome) : Type 0 where
  pub fine : too_long k (length c) ≡ false
  pub inside : seek (k ∷ c) (kindred o.asked.head o.bytes k) < (shelf_of o.asked.head k).count
  pub number : o.asked.number ≡ (shelf_of h k).first + seek (k ∷ c) (kindred o.asked.head o.bytes k)

shelf-first : (g h : TableHead) (k : ℕ) → (shelf_of g k).first ≡ (shelf_of h k).first
unfolding shelf_of
shelf-first g h k = go (eqb k 0)
  where
    go : (b : Bool) → (cond b (name_shelf g) (value_shelf g)).first ≡ (cond b (name_shelf h) (value_shelf h)).first
    go true = refl
    go false = refl

shelf_from : (g h : TableHead) (k : ℕ) → (shelf_of g k).from ≡ (shelf_of h k).from
unfolding shelf_of
shelf_from g h k = go (eqb k 0)
  where
    go : (b : Bool) → (cond b (name_shelf g) (value_shelf g)).from ≡ (cond b (name_shelf h) (value_shelf h)).from
    go true = refl
    go false = refl

shelf-count : (h : TableHead) (k : ℕ) → (shelf_of (grown_of h k) k).count ≡ (shelf_of h k).count + 1
unfolding shelf_of grown_of
shelf-count h k = go (eqb k 0)
  where
    go : (b : Bool) → (cond b (name_shelf (cond b (one_name h) (one_value h))) (value_shelf (cond b (one_name h) (one_value h)))).count ≡ (cond b (name_shelf h) (value_shelf h)).count + 1
    go true = refl
    go false = refl

-- the slots that hold an entry
abbrev pub Used : TableHead → ℕ → Type 0
Used h s = (s < h.names) ⊎ ((16 ≤ s) × (s < 16 + h.values))

module _ (h : TableHead) (m : List ℕ) (k : ℕ) (c : List ℕ) (shape : Shape k c) (p : Sound h m) where
  ask : Outcome
  ask = ask_of h m k c

  decided : Result (Option ℕ) Refusal
  decided = asking_of (shelf_of h k).most (kindred h m k) k c

  is-outcome : ask ≡ outcome h (shelf_of h k) m k c decided
  unfolding ask decided
  is-outcome = ask_case h m k c (sound-whole p) (shelf_of h k) refl decided refl

  grown-sound : (b : Bool) → eqb k 0 ≡ b → (s : Shelf) → s ≡ cond b (name_shelf h) (value_shelf h)
      → (g : TableHead) → g ≡ cond b (one_name h) (one_value h)
      → New s.most m s.from s.count k c → Sound g (put_at m (s.from + s.count) k c)
  grown-sound true e s es g eg = rw (es, eg) (λ new.
      let left = new.left in
      let short = new.short in
      let few = p.of-names.few in
      record {
        full = put-length m (0 + h.names) k c p.full (omega arith) short;
        of-names = shelf-grows m k c p.full new.fine shape 0 h.names 16 (omega arith) (lt-ltb (0 + h.names) 16 (omega arith) ∙ sym e) new p.of-names;
        of_values = shelf-stays m k c p.full new.fine shape (0 + h.names) 16 h.values 255 (omega arith) (inl (omega arith)) p.of_values;
      })
  grown-sound false e s es g eg = rw (es, eg) (λ new.
      let left = new.left in
      let short = new.short in
      let few = p.of-names.few in
      record {
        full = put-length m (16 + h.values) k c p.full (omega arith) short;
        of-names = shelf-stays m k c p.full new.fine shape (16 + h.values) 0 h.names 16 (omega arith) (inr (omega arith)) p.of-names;
        of_values = shelf-grows m k c p.full new.fine shape 16 h.values 255 (omega arith) (le-ltb (16 + h.values) 16 (omega arith) ∙ sym e) new p.of_values;
      })

  away : (b : Bool) (s : ℕ) → Used h s → (t : Shelf) → t ≡ cond b (name_shelf h) (value_shelf h) → t.count < t.most
      → (t.from + t.count < s) ⊎ (s < t.from + t.count)
  away true s (inl u) t e = rw e (λ left. inr (omega arith))
  away true s (inr u) t e = rw e (λ left. inl (omega arith))
  away false s (inl u) t e = let few = p.of-names.few in rw e (λ left. inr (omega arith))
  away false s (inr u) t e = rw e (λ left. inr (omega arith))

  kept_fresh : (s : ℕ) → Used h s → New (shelf_of h k).most m (shelf_of h k).from (shelf_of h k).count k c
      → entry_at (put_at m ((shelf_of h k).from + (shelf_of h k).count) k c) s ≡ entry_at m s
  unfolding shelf_of
  kept_fresh s used new =
      let room = shelf-room h m k p (shelf_of h k) refl in
      let left = new.left in
      other-entry m ((shelf_of h k).from + (shelf_of h k).count) k c p.full (omega arith) new.short s (away (eqb k 0) s used (shelf_of h k) refl left)

  -- refused or not, a sound table stays sound
  pub ask-sound : Sound (ask_of h m k c).asked.head (ask_of h m k c).bytes
  unfolding ask decided outcome shelf_of grown_of
  ask-sound = rw is-outcome (go decided refl)
    where
      go : (a : Result (Option ℕ) Refusal) → a ≡ decided → Sound (outcome h (shelf_of h k) m k c a).asked.head (outcome h (shelf_of h k) m k c a).bytes
      go (Err r) e = p
      go (Ok (Some i)) e = p
      go (Ok None) e = grown-sound (eqb k 0) refl (shelf_of h k) refl (grown_of h k) refl (fresh-facts _ m _ _ k c (Ok None) e refl)

  grown-kindred : New (shelf_of h k).most m (shelf_of h k).from (shelf_of h k).count k c
      → kindred (grown_of h k) (put_at m ((shelf_of h k).from + (shelf_of h k).count) k c) k ≡ kindred h m k ++ (k ∷ c) ∷ []
  grown-kindred new =
      let room = shelf-room h m k p (shelf_of h k) refl in
      let from = (shelf_of h k).from in
      let count = (shelf_of h k).count in
      let short = new.short in
      let left = new.left in
      let t-in : from + count < 271 = omega arith in
      rw (
        shelf-count h k,
        shelf_from (grown_of h k) h k,
        entries-more (put_at m (from + count) k c) from count,
        put_entries m (from + count) k c p.full t-in short from count (inr (omega arith)),
        put-entry m (from + count) k c p.full t-in short,
      )

  pub ask-placed : (ask_of h m k c).asked.refusal ≡ 0 → Placed h k c (ask_of h m k c)
  unfolding ask decided outcome
  ask-placed = rw is-outcome (go decided refl)
    where
      go : (a : Result (Option ℕ) Refusal) → a ≡ decided → (outcome h (shelf_of h k) m k c a).asked.refusal ≡ 0 → Placed h k c (outcome h (shelf_of h k) m k c a)
      go (Err r) e q = absurd (omega (arith, refused-number r))
      go (Ok (Some i)) e q =
          let is = known_facts _ m _ _ k c (Ok (Some i)) e i refl in
          record { fine = is.fine; inside = rw is.there is.below; number = rw is.there }
      go (Ok None) e q =
          let new = fresh-facts _ m _ _ k c (Ok None) e refl in
          let all = grown-kindred new in
          let found : seek (k ∷ c) (kindred h m k ++ (k ∷ c) ∷ []) ≡ (shelf_of h k).count =
          seek-more (k ∷ c) (kindred h m k) (new.new ∙ sym (length-entries m _ _)) ∙ length-entries m _ _ in
          record {
            fine = new.fine;
            inside = rw (all, found, shelf-count h k) (omega arith);
            number = rw (all, found);
          }

  -- asked again, it has the same number, and nothing changes
  pub ask-twice : (ask_of h m k c).asked.refusal ≡ 0
      → ask_of (ask_of h m k c).asked.head (ask_of h m k c).bytes k c
      ≡ record { asked = record { refusal = 0; number = (ask_of h m k c).asked.number; head = (ask_of h m k c).asked.head }; bytes = (ask_of h m k c).bytes }
  unfolding outcome
  ask-twice q =
      let placed = ask-placed q in
      let g = (ask_of h m k c).asked.head in
      let b = (ask_of h m k c).bytes in
      let known = is_known (shelf_of g k).most b (shelf_of g k).from (shelf_of g k).count k c placed.fine _ refl placed.inside in
      ask_case g b k c (sound-whole ask-sound) (shelf_of g k) refl _ (sym known) ∙ rw (shelf-first g h k, placed.number)

  -- an entry that has a number keeps it
  pub ask-keeps : (s : ℕ) → Used h s → entry_at (ask_of h m k c).bytes s ≡ entry_at m s
  unfolding ask decided outcome
  ask-keeps s used = rw is-outcome (go decided refl)
    where
      go : (a : Result (Option ℕ) Refusal) → a ≡ decided → entry_at (outcome h (shelf_of h k) m k c a).bytes s ≡ entry_at m s
      go (Err r) e = refl
      go (Ok (Some i)) e = refl
      go (Ok None) e = kept_fresh s used (fresh-facts _ m _ _ k c (Ok None) e refl)

-- ---- two numbers of a sound table are the same exactly where their entries are
pub entries_at : (m : List ℕ) (s n i : ℕ) → i < n → get_or (entries m s n) i [] ≡ entry_at m (s + i)
unfolding entries
entries_at m s zero i h = absurd (omega arith)
entries_at m s (suc n) zero h = ap (entry_at m) (sym (add-zero s))
entries_at m s (suc n) (suc i) h =
    let e : s + suc i ≡ suc s + i = omega arith in
    entries_at m (suc s) n i (omega arith) ∙ ap (entry_at m) (sym e)

pub one_number : (m : List ℕ) (s n most i j : ℕ) → Shelved m s n most → i < n → j < n → entry_at m (s + i) ≡ entry_at m (s + j) → i ≡ j
one_number m s n most i j p hi hj e =
    let own : (x : ℕ) → x < n → seek (entry_at m (s + x)) (entries m s n) ≡ x =
    λ x hx. ap (λ (y : List ℕ). seek y (entries m s n)) (sym (entries_at m s n x hx)) ∙ seek_own (entries m s n) x p.apart (rw (length-entries m s n) hx) in
    sym (own i hi) ∙ ap (λ (y : List ℕ). seek y (entries m s n)) e ∙ own j hj

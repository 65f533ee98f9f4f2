-- Marks for the keys of a set, put one after another, lowest key first. Assumes nothing.
use Prim.Native.Nat.{ℕ, ◌+◌, ◌^◌, ◌<◌, ◌≤◌}
use native.Mathlib.Numerals.{add-one}
use native.Mathlib.Omega.{arith}
use mathlib.Core.Path.{◌≡◌, refl, sym, ap, ◌∙◌}
use mathlib.Core.List.{List, [], ◌∷◌}
use lib.ListN.{length}
use Rattle.attrs.specs.declared.Attrs.{Attrs}
use Rattle.sets.specs.Sets.{is, Set, Env, none, keys}
use Rattle.sets.specs.Bits.{keys_of}
use Rattle.attrs.specs.Packed.{says, Got}
use Rattle.sets.proofs.Keys.{each, keys_none, keys-le}
use Rattle.attrs.proofs.Slots.{each-keys, key-says, Part, part_all, Turn}
use Rattle.rules.specs.Sheet.{Item, mark, new}
use Rattle.rules.specs.Places.{after, put, mark_for, marks}
use Rattle.rules.specs.Edits.{put_new}
use Rattle.layout.specs.declared.head.Head.{Head}
use Rattle.layout.specs.declared.word.Content.TheVariants.{Mark}
use Rattle.layout.specs.Word.{what_of}
use Rattle.arena.specs.declared.Place.{Place}
use Rattle.arena.specs.Places.{SIZE, left_of, right_of, Standing, Puttable, Carried, Going, in_turn, staying}
use Rattle.arena.proofs.Carried.{going_start, going_on}
use Rattle.arena.proofs.Walks.{going-same, going-stopped}
use Rattle.marks.specs.Moves.{putting_at, putting}
use Rattle.marks.proofs.Rooms.{carried-next}

-- ---- the keys that a set has will do
marks-each : (ks : List ℕ) (a : Set) → marks ks a ≡ each (λ k s more m. mark_for k s more m) (λ m. []) ks a
marks-each [] a = refl
marks-each (k ∷ ks) a =
    let first : (ℕ → List Item) → ℕ → List Item = λ more m. mark_for k (a k) more m in
    ap first (marks-each ks a)

marks-keys : (a : Attrs) → marks keys (says a) ≡ marks (keys_of a.mask) (says a)
marks-keys a =
    marks-each keys (says a) ∙ each-keys (λ k s more m. mark_for k s more m) (λ m. []) (λ k more. refl) a ∙ sym (marks-each (keys_of a.mask) (says a))

-- the first key's mark, and then the others'
next-mark : (k v : ℕ) (ks : List ℕ) (a : Set) (e : Env) (l : List Item) (m : ℕ) → a k ≡ is v
    → putting_at (k ∷ ks) a e l m ≡ in_turn (put_new (mark k v)) (putting_at ks a) e l m
next-mark k v ks a e l m q =
    let e₁ : mark_for k (a k) (marks ks a) m ≡ new m (mark k v) ∷ marks ks a (m + 1) = rw (q, add-one m) in
    let e₂ : m + length (mark_for k (a k) (marks ks a) m) ≡ m + 1 + length (marks ks a (m + 1)) = omega (arith, ap length e₁) in
    λ i. record { left = e₁ i; right = l; next = e₂ i }

-- ---- the turns of the walk over a set's keys: those left have still to get their marks
pub record Marking (h : Head) (m : List ℕ) (p : Place) (set : Attrs) (left : ℕ) (h₁ : Head) (m₁ : List ℕ) (p₁ : Place) : Type 0 where
  pub going : Going (putting (says set)) h m p (putting_at (keys_of left) (says set)) h₁ m₁ p₁
  pub part : Part set.mask left
  pub room : h₁.items + length (keys_of left) ≤ SIZE

pub marking-start : {h : Head} {m : List ℕ} {p : Place} (set : Attrs) → Standing h m p → h.items + 16 ≤ SIZE → set.mask < 2 ^ 16 → Marking h m p set set.mask h m p
marking-start {h} {m} {p} set s room fits =
    record {
      going = going-same (going_start (putting (says set)) s) (putting_at (keys_of set.mask) (says set)) (ap (λ (g : ℕ → List Item). put (g h.items) (right_of h m p) h.items) (marks-keys set));
      part = part_all set.mask fits;
      room = omega (arith, room, keys-le set.mask fits);
    }

module _ {h : Head} {m : List ℕ} {p : Place} {set : Attrs} {left : ℕ} {h₁ : Head} {m₁ : List ℕ} {p₁ : Place} (o : Marking h m p set left h₁ m₁ p₁) where
  pub marking-end : left ≡ 0 → Carried (putting (says set)) h m p h₁ m₁ p₁
  marking-end z =
      let none_left : keys_of left ≡ [] = ap keys_of z ∙ keys_none in
      let E = after none (left_of h₁ m₁ p₁) in
      let R = right_of h₁ m₁ p₁ in
      let no_more : h₁.items + 0 ≡ h₁.items = omega arith in
      going-stopped (going-same o.going staying (ap (λ (ks : List ℕ). putting_at ks (says set) E R h₁.items) none_left ∙ (λ i. record { left = []; right = R; next = no_more i })))

  module _ {k r : ℕ} (met : Turn set.mask left k r) {v : ℕ} (g : Got set k v) where
    pub marking-asks : Puttable h₁ m₁ p₁ (Mark k v)
    marking-asks = record { stands = o.going.stands; room = omega (arith, o.room, ap length met.first); range = (met.lt, g.small) }

    pub marking-turn : {h₂ : Head} {m₂ : List ℕ} {p₂ : Place} → Carried (put_new (what_of (Mark k v))) h₁ m₁ p₁ h₂ m₂ p₂ → Marking h m p set r h₂ m₂ p₂
    marking-turn c =
        let E = after none (left_of h₁ m₁ p₁) in
        let R = right_of h₁ m₁ p₁ in
        let value : says set k ≡ is v = key-says set k met.lt met.there ∙ ap is (sym g.is) in
        record {
          going = going_on (putting_at (keys_of r) (says set)) o.going c (ap (λ (ks : List ℕ). putting_at ks (says set) E R h₁.items) met.first ∙ next-mark k v (keys_of r) (says set) E R h₁.items value);
          part = met.rest;
          room = omega (arith, o.room, ap length met.first, carried-next c);
        }

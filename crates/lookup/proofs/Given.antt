-- What was asked for is read back. Assumes nothing.
use Prim.Native.Nat.{ℕ, ◌+◌, ◌<◌, ◌≤◌}
use native.Mathlib.Omega.{arith}
use mathlib.Core.Path.{◌≡◌, refl, sym, ap, ap₂, ◌∙◌}
use mathlib.Core.Bool.{true, false}
use mathlib.Core.List.{List, ◌∷◌}
use mir.Syntax.{w64}
use mir.Val.{SFits, of_z}
use mir.Facts.{to_z-of_z, Fits-of_z}
use borrow.Author.Tests.{lt-ltb, le-leb, ne_eqb}
use Rattle.entries.specs.Entry.{kind_at, content_at, entry_at, seek}
use Rattle.std.specs.Prelude.{Some}
use Rattle.entries.specs.Number.{number_of}
use Rattle.table.specs.declared.TableHead.{TableHead}
use Rattle.table.specs.Value.{Value, bool, int, string, kind_of, content_of}
use Rattle.table.specs.Ask.{name_shelf, value_shelf, shelf_of, ask_of, ask_name, ask_value}
use Rattle.lookup.specs.Show.{value_of, bytes_of, case_of, given_name, given_value, value_at, shown_of, name_of, string_of}
use Rattle.entries.proofs.Bytes.{number-low}
use Rattle.entries.proofs.Entries.{length-entries}
use Rattle.entries.proofs.Seeks.{seek-at}
use Rattle.table.proofs.Tables.{Sound, sound-whole}
use Rattle.table.proofs.Grown.{Shape, name_shape, value_shape}
use Rattle.table.proofs.Model.{kindred, ask-sound, ask-placed, entries_at}

-- an integer is one that 64 bits hold
abbrev pub Whole : Value → Type 0
Whole (bool b) = Unit {0}
Whole (int z) = SFits w64 z
Whole (string c) = Unit {0}

pub value-back : (v : Value) → Whole v → value_of (kind_of v) (content_of v) ≡ v
unfolding value_of kind_of content_of number_of
value-back (bool true) w = refl
value-back (bool false) w = refl
value-back (int z) w = rw (number-low 8 (of_z w64 z) (Fits-of_z w).fits, to_z-of_z w)
value-back (string c) w = refl

-- equal entries are equal values: kind and content tell values apart
pub value_entry : (v w : Value) → Whole v → Whole w → kind_of v ∷ content_of v ≡ kind_of w ∷ content_of w → v ≡ w
value_entry v w p q e =
    let k : kind_of v ≡ kind_of w = cc in
    let c : content_of v ≡ content_of w = cc in
    sym (value-back v p) ∙ ap₂ value_of k c ∙ value-back w q

value-shelf : (h : TableHead) (v : Value) → shelf_of h (kind_of v) ≡ value_shelf h
unfolding shelf_of kind_of
value-shelf h (bool b) = refl
value-shelf h (int z) = refl
value-shelf h (string c) = refl

name-shelf : (h : TableHead) → shelf_of h 0 ≡ name_shelf h
unfolding shelf_of
name-shelf h = refl

-- the slot of an accepted asking's number holds what was asked for
module _ (h : TableHead) (m : List ℕ) (k : ℕ) (c : List ℕ) (shape : Shape k c) (p : Sound h m) (q : (ask_of h m k c).asked.refusal ≡ 0) where
  pub placed-entry : entry_at (ask_of h m k c).bytes ((shelf_of (ask_of h m k c).asked.head k).from + seek (k ∷ c) (kindred (ask_of h m k c).asked.head (ask_of h m k c).bytes k)) ≡ k ∷ c
  placed-entry =
      let placed = ask-placed h m k c shape p q in
      sym (entries_at _ _ _ _ placed.inside) ∙ seek-at (k ∷ c) (kindred (ask_of h m k c).asked.head (ask_of h m k c).bytes k) (rw length-entries placed.inside)

  entry-kind : (s : ℕ) → entry_at (ask_of h m k c).bytes s ≡ k ∷ c → kind_at (ask_of h m k c).bytes s ≡ k
  unfolding entry_at
  entry-kind s e = cc

  entry-content : (s : ℕ) → entry_at (ask_of h m k c).bytes s ≡ k ∷ c → content_at (ask_of h m k c).bytes s ≡ c
  unfolding entry_at
  entry-content s e = cc

-- a name that was accepted is shown under its number
pub name-read : (h : TableHead) (m : List ℕ) (c : List ℕ) → Sound h m → (ask_name h m c).asked.refusal ≡ 0
    → name_of (ask_name h m c).asked.head (ask_name h m c).bytes (ask_name h m c).asked.number ≡ c
unfolding name_of given_name shelf_of
name-read h m c p q =
    let shape = name_shape c in
    let placed = ask-placed h m 0 c shape p q in
    let n = (ask_name h m c).asked.number in
    let here : entry_at (ask_name h m c).bytes n ≡ 0 ∷ c =
    ap (entry_at (ask_name h m c).bytes) placed.number ∙ placed-entry h m 0 c shape p q in
    let below : n < (ask_name h m c).asked.head.names = omega (arith, placed.number, placed.inside) in
    rw (sound-whole (ask-sound h m 0 c shape p), lt-ltb n (ask_name h m c).asked.head.names below) (entry-content h m 0 c shape p q n here)

-- a value that was accepted is given out, and its slot holds it
module _ (h : TableHead) (m : List ℕ) (v : Value) (p : Sound h m) (q : (ask_value h m v).asked.refusal ≡ 0) where
  value-slot : (given_value (ask_value h m v).asked.head (ask_value h m v).bytes (ask_value h m v).asked.number ≡ true)
      × (entry_at (ask_value h m v).bytes (15 + (ask_value h m v).asked.number) ≡ kind_of v ∷ content_of v)
  unfolding given_value
  value-slot =
      let shape = value_shape v in
      let o = ask_value h m v in
      let placed = ask-placed h m (kind_of v) (content_of v) shape p q in
      let entry = placed-entry h m (kind_of v) (content_of v) shape p q in
      let first : (shelf_of h (kind_of v)).first ≡ 1 = rw (value-shelf h v) in
      let from : (shelf_of o.asked.head (kind_of v)).from ≡ 16 = rw (value-shelf o.asked.head v) in
      let count : (shelf_of o.asked.head (kind_of v)).count ≡ o.asked.head.values = rw (value-shelf o.asked.head v) in
      let number = placed.number in
      let inside = placed.inside in
      let slot : 15 + o.asked.number ≡ (shelf_of o.asked.head (kind_of v)).from + seek (kind_of v ∷ content_of v) (kindred o.asked.head o.bytes (kind_of v)) = omega arith in
      let high : o.asked.number ≤ o.asked.head.values = omega arith in
      (rw (sound-whole (ask-sound h m (kind_of v) (content_of v) shape p), ne_eqb o.asked.number 0 (λ e. omega arith), le-leb o.asked.number o.asked.head.values high), ap (entry_at o.bytes) slot ∙ entry)

  value_there : Whole v → value_at (ask_value h m v).bytes (ask_value h m v).asked.number ≡ v
  unfolding value_at
  value_there w =
      let shape = value_shape v in
      let at = value-slot.1 in
      ap₂ value_of (entry-kind h m (kind_of v) (content_of v) shape p q _ at) (entry-content h m (kind_of v) (content_of v) shape p q _ at) ∙ value-back v w

  -- and is shown under its number
  pub value_read : Whole v → shown_of (ask_value h m v).asked.head (ask_value h m v).bytes (ask_value h m v).asked.number ≡ Some (case_of v)
  unfolding shown_of
  value_read w = rw (value-slot.0, value_there w)

  pub string-read : Whole v → string_of (ask_value h m v).asked.head (ask_value h m v).bytes (ask_value h m v).asked.number ≡ bytes_of v
  unfolding string_of
  string-read w = rw (value-slot.0, value_there w)

-- A working copy: a sound sheet loaded, an edit by index carried out there, and its words copied back. Assumes nothing.
use Prim.Native.Nat.{ℕ, ◌<◌, ◌≤◌}
use native.Mathlib.Omega.{arith}
use mathlib.Core.Path.{◌≡◌, sym, ap, ap₂, subst, ◌∙◌}
use mathlib.Core.Bool.{true}
use mathlib.Core.List.{List}
use lib.Dec.{ltb}
use lib.ListN.{length, get_or}
use borrow.Author.Tests.{le-leb, lt-leb, lt-ltb}
use Rattle.units.proofs.Halves.{both}
use Rattle.sets.specs.Sets.{none}
use Rattle.rules.specs.Sheet.{Item}
use Rattle.rules.specs.Places.{At, Move, whole, and_then}
use Rattle.rules.specs.Edits.{by_index}
use Rattle.layout.specs.declared.head.Head.{Head}
use Rattle.layout.specs.Word.{in_range}
use Rattle.layout.specs.Chain.{END, head_or}
use Rattle.layout.specs.Heads.{grown_head}
use Rattle.layout.specs.Memory.{list_of, stored}
use Rattle.layout.proofs.Links.{distinct, head-is, length-chain}
use Rattle.layout.proofs.Numbers.{Once, once, walk-below}
use Rattle.layout.proofs.Stored.{each_all, stored_same}
use Rattle.layout.proofs.Copies.{copy-back}
use Rattle.arena.specs.declared.Place.{Place}
use Rattle.arena.specs.Places.{SIZE, Neat, Arena, placed, Carried, in_turn, placing, start_of}
use Rattle.arena.specs.Writes.{copied}
use Rattle.arena.proofs.Standing.{parts}
use Rattle.arena.proofs.Steps.{start-stands}
use Rattle.arena.proofs.Copied.{Kept, copy-keeps, load-arena}
use Rattle.changes.specs.declared.change.Change.{Change}
use Rattle.changes.specs.Changes.{move_of}
use Rattle.changes.specs.Frame.{Left, granted, Loadable, Worked, Tried, CopyOf}

-- ---- loaded
module _ (h : Head) (m to : List ℕ) (ok : Loadable h m) (long : length to ≡ SIZE) where
  loaded : Kept h m to
  loaded = copy-keeps h m to (omega (arith, ok.words, ok.items)) (omega (arith, ok.items)) ok.walk ok.neat

  pub load_is : (k : List ℕ) → k ≡ copied h.items m to → CopyOf h m k
  load_is k e = rw e (record { arena = load-arena h m to long (omega (arith, ok.items)) loaded; list = loaded.list })

-- ---- carried out by index
pub worked : (i : ℕ) (f : Move) {h : Head} {m : List ℕ} {h₁ : Head} {m₁ : List ℕ} {p₁ : Place} → Arena h m → Carried (in_turn (placing i) f) h m (start_of h) h₁ m₁ p₁
    → Worked (by_index i f (list_of h m) h.items) h₁ m₁
worked i f {h} {m} {h₁} {m₁} {p₁} a c =
    let e : placed h₁ m₁ p₁ ≡ by_index i f (list_of h m) h.items = c.moved ∙ ap (λ (x : At). and_then none x (in_turn (placing i) f)) (start-stands a).at in
    record { arena = c.stands.arena; list = parts h₁ m₁ p₁ ∙ ap whole e; next = ap (λ (x : At). x.next) e }

-- ---- back
neat-range : (w : ℕ) → Neat w → in_range w ≡ true
unfolding in_range
neat-range w t = both (ltb w 562949953421312) _ (lt-ltb w 562949953421312 t.small) (lt-ltb _ 3 t.kind)

module _ (p : At) (h : Head) (m : List ℕ) (h₁ : Head) (m₁ : List ℕ) (w : Worked p h₁ m₁) where
  few : h₁.items ≤ END
  few = omega (arith, w.arena.few)

  pub worked-count : length (whole p) ≡ h₁.items
  worked-count = ap length (sym w.list) ∙ length-chain h₁.items m₁ h₁.first

  worked-first : head_or (whole p) ≡ h₁.first
  worked-first = ap head_or (sym w.list) ∙ head-is h₁.items m₁ few h₁.items h₁.first w.arena.walk

  worked-stored : h₁.items ≤ length m → copied h₁.items m₁ m ≡ stored (whole p) m
  worked-stored room =
      let n = h₁.items in
      let l = list_of h₁ m₁ in
      let a = w.arena in
      let o : Once l n = once n l (distinct n m₁ few n h₁.first a.walk) (walk-below n n m₁ h₁.first a.walk) (length-chain n m₁ h₁.first) in
      let s : stored l m₁ ≡ m₁ = stored_same n n m₁ h₁.first few a.walk (each_all in_range n n m₁ h₁.first (λ j k. neat-range (get_or m₁ j 0) (a.neat j k)) a.walk) in
      copy-back l n m m₁ room (omega (arith, a.few, a.long)) o s ∙ ap (λ (x : List Item). stored x m) w.list

  pub granted-is : (used : ℕ) → h₁.items ≤ 2048 → length m ≡ 2048 → (g : Head) → g ≡ grown_head h h₁.first h₁.items used → (k : List ℕ) → k ≡ copied h₁.items m₁ m
      → record { refusal = 0; head = g; words = k } ≡ granted p used h m
  unfolding granted
  granted-is used l long g eg k ek =
      rw (le-leb (length (whole p)) 2048 (omega (arith, worked-count)))
      (ap₂ (λ (x : Head) (y : List ℕ). record { refusal = 0; head = x; words = y }) (eg ∙ ap₂ (λ (a b : ℕ). grown_head h a b used) (sym worked-first) w.next) (ek ∙ worked-stored (omega arith)))

-- a step that went through, as one that was tried
pub tried-worked : {p : At} {h₁ : Head} {m₁ : List ℕ} → Worked p h₁ m₁ → Tried p h₁ m₁
tried-worked {p} {h₁} {m₁} w = record { fits = λ f. w; long = λ l. omega (arith, worked-count p h₁ m₁ h₁ m₁ w) }

-- in the copy, and so in the sheet that was loaded
pub tried_loaded : (i : ℕ) (f : Move) (n : ℕ) {l l' : List Item} {h₁ : Head} {m₁ : List ℕ} → l ≡ l' → Worked (by_index i f l n) h₁ m₁ → Tried (by_index i f l' n) h₁ m₁
tried_loaded i f n {h₁ = h₁} {m₁} e w = tried-worked (subst (λ (l : List Item). Worked (by_index i f l n) h₁ m₁) e w)

-- refused where it got too long
pub tried_not : {p : At} {h₁ : Head} {m₁ : List ℕ} → Tried p h₁ m₁ → 2048 < h₁.items → (used : ℕ) (h : Head) (m : List ℕ) → record { refusal = 4; head = h; words = m } ≡ granted p used h m
unfolding granted
tried_not {p} t l used h m = rw (lt-leb (length (whole p)) 2048 (t.long l))

-- the same of one that went through
pub granted-not : (p : At) (h : Head) (m : List ℕ) (h₁ : Head) (m₁ : List ℕ) → Worked p h₁ m₁ → (used : ℕ) → 2048 < h₁.items → record { refusal = 4; head = h; words = m } ≡ granted p used h m
granted-not p h m h₁ m₁ w used l = tried_not (tried-worked w) l used h m

-- granted by a change that is known
pub granted_by : {c d : Change} (i : ℕ) (used : ℕ) (h : Head) (m : List ℕ) (x : Left) → x ≡ granted (by_index i (move_of c) (list_of h m) h.items) used h m → c ≡ d
    → x ≡ granted (by_index i (move_of d) (list_of h m) h.items) used h m
granted_by i used h m x g e = g ∙ ap (λ (y : Change). granted (by_index i (move_of y) (list_of h m) h.items) used h m) e

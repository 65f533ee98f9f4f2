-- Places in a working copy of a sheet's items, and what it means that code carries a rule out there.
use Rattle.std.specs.Prelude.{ℕ, suc, ◌+◌, ◌-◌, ◌/◌, ◌%◌, ◌<◌, ◌≤◌, ◌≡◌, Bool, true, cond, List, [], ◌∷◌, length, get_or, take, drop}
use Rattle.attrs.specs.declared.Attrs.{Attrs}
use Rattle.sets.specs.Sets.{empty, none, as_set}
use Rattle.attrs.specs.Packed.{packed}
use Rattle.rules.specs.Sheet.{Item, like, kill, width}
use Rattle.rules.specs.Places.{At, Move, stay, over, after, and_then, left_half, right_half, place}
use Rattle.layout.specs.declared.head.Head.{Head}
use Rattle.layout.specs.declared.word.Content.{Content}
use Rattle.layout.specs.declared.word.Content.TheVariants.{Text, Embed, Mark}
use Rattle.layout.specs.declared.word.Item as Word
use Rattle.layout.specs.Word.{what_of, unpack_of}
use Rattle.layout.specs.Force.{mark_on}
use Rattle.layout.specs.Chain.{END, item_at, chain, walks, head_or, last_or}
use Rattle.arena.specs.declared.Place.{Place}

-- How many words a working copy has: 2,048, and room for what one edit can make.
abbrev pub SIZE : ℕ
SIZE = 2088

-- A place's left neighbour: an item of the copy, or none.
abbrev pub Linkable : ℕ → Type 0
Linkable l = (l ≡ END → ⊥) → l < SIZE

-- ---- a working copy

-- A content in its range: a text that is not empty and lies within a sheet's units, a 32-bit number, a key with a value.
abbrev pub InRange : Content → Type 0
InRange (Text s l) = (0 < l) × (s + l ≤ 16384)
InRange (Embed n) = n < 4294967296
InRange (Mark k v) = (k < 16) × (v < 256)

-- A word that holds an item in range and nothing else: packing what it says gives it back.
pub record Neat (w : ℕ) : Type 0 where
  pub small : w < 562949953421312
  pub kind : w / 4096 % 4 < 3
  pub range : InRange (unpack_of w).content

-- The links reach each used item once and end, and each used word is neat.
pub record Arena (h : Head) (m : List ℕ) : Type 0 where
  pub long : length m ≡ SIZE
  pub few : h.items ≤ SIZE
  pub walk : walks h.items h.items m h.first ≡ true
  pub neat : (n : ℕ) → n < h.items → Neat (get_or m n 0)

-- ---- a place in it

abbrev pub list_of : Head → List ℕ → List Item
list_of h m = chain h.items m h.first

-- The items left and right of a place.
abbrev pub left_of : Head → List ℕ → Place → List Item
left_of h m p = take (h.items - p.todo) (list_of h m)

abbrev pub right_of : Head → List ℕ → Place → List Item
right_of h m p = drop (h.items - p.todo) (list_of h m)

-- A place as the rules have it.
abbrev pub placed : Head → List ℕ → Place → At
placed h m p = record { left = left_of h m p; right = right_of h m p; next = h.items }

-- What is in force right of a list, as a set.
unfoldable pub in_force : List Item → Attrs
in_force l = packed (as_set (after none l))

-- A place's fields say what they should: its neighbours, how many items follow, and what is in force there.
pub record Standing (h : Head) (m : List ℕ) (p : Place) : Type 0 where
  pub arena : Arena h m
  pub todo : p.todo ≤ h.items
  pub left : p.left ≡ last_or END (left_of h m p)
  pub right : p.right ≡ head_or (right_of h m p)
  pub force : p.force ≡ in_force (left_of h m p)

-- Before the first item, with nothing in force.
abbrev pub start_of : Head → Place
start_of h = record { left = END; right = h.first; todo = h.items; force = packed empty }

-- What passing an item makes of what is in force.
unfoldable pub passed_force : Attrs → Bool → Content → Attrs
passed_force a d c = cond d a (mark_on a (what_of c))

-- The place behind the item right of a place, which says this ..
abbrev pub behind : Place → Word.Item → Place
behind p it = record { left = p.right; right = it.next; todo = p.todo - 1; force = passed_force p.force it.dead it.content }

-- .. and as the copy has it.
abbrev pub forward_of : List ℕ → Place → Place
forward_of m p = behind p (unpack_of (get_or m p.right 0))

-- The same place once items were put in right of it: as many stand left of it as before.
abbrev pub kept_place : Place → Head → Head → Place
kept_place p h h₁ = record { left = p.left; right = p.right; todo = h₁.items - (h.items - p.todo); force = p.force }

-- ---- a rule carried out

-- What a move makes of what is right of a place.
abbrev pub moved_by : Move → Head → List ℕ → Place → At
moved_by f h m p = f (after none (left_of h m p)) (right_of h m p) h.items

-- From one head, copy and place to others, the rule's move was carried out, item by item.
abbrev pub Moved : Move → Head → List ℕ → Place → Head → List ℕ → Place → Type 0
Moved f h m p h₁ m₁ p₁ = placed h₁ m₁ p₁ ≡ and_then none (placed h m p) f

pub record Carried (f : Move) (h : Head) (m : List ℕ) (p : Place) (h₁ : Head) (m₁ : List ℕ) (p₁ : Place) : Type 0 where
  pub stands : Standing h₁ m₁ p₁
  pub moved : Moved f h m p h₁ m₁ p₁
  pub units : h₁.units ≡ h.units

-- One move and then another.
abbrev pub in_turn : Move → Move → Move
in_turn f g e l m = and_then e (f e l m) g

-- A walk on its way: what is left to do from where it stands, g, gives what there was to do at first, f.
pub record Going (f : Move) (h : Head) (m : List ℕ) (p : Place) (g : Move) (h₁ : Head) (m₁ : List ℕ) (p₁ : Place) : Type 0 where
  pub stands : Standing h₁ m₁ p₁
  pub rest : and_then none (placed h₁ m₁ p₁) g ≡ and_then none (placed h m p) f
  pub units : h₁.units ≡ h.units

-- The move that stays, and the move past one item.
abbrev pub staying : Move
staying e l m = stay l m

abbrev pub ahead : Move
ahead e [] m = stay [] m
ahead e (i ∷ l) m = over i (stay l m)

-- The text right of the place is cut after n units, and the place stays. With `ahead` it is the rules' `split`.
abbrev pub halving : ℕ → Move
halving n e [] m = stay [] m
halving n e (i ∷ l) m = stay (like i i.num (left_half n i.what) ∷ like i m (right_half n i.what) ∷ l) (suc m)

-- The item right of the place is deleted, and the place stays.
abbrev pub killing : Move
killing e [] m = stay [] m
killing e (i ∷ l) m = stay (kill i ∷ l) m

-- Rule Place, as a move.
abbrev pub placing : ℕ → Move
placing n e l m = place n l m

-- What a cut asks: room for its right half, and a text right of the place that is longer than n.
pub record Cuttable (h : Head) (m : List ℕ) (p : Place) (n : ℕ) : Type 0 where
  pub stands : Standing h m p
  pub room : h.items < SIZE
  pub more : 0 < p.todo
  pub some : 0 < n
  pub inside : n < width (item_at m p.right).what

-- A place with one item more to its right.
abbrev pub widened : Place → Place
widened p = record { left = p.left; right = p.right; todo = p.todo + 1; force = p.force }

-- What an item that is put asks: room, and a content in range.
pub record Puttable (h : Head) (m : List ℕ) (p : Place) (c : Content) : Type 0 where
  pub stands : Standing h m p
  pub room : h.items < SIZE
  pub range : InRange c

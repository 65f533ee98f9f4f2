-- The walk from run to run: what each item does to it, and what is found.
use Rattle.std.specs.Prelude.{ℕ, ◌+◌, ◌-◌, ◌<◌, ◌≤◌, ◌≡◌, Bool, true, false, cond, not, ◌||◌, List, ◌∷◌, length}
use Rattle.std.specs.Iterator.{Count, at_most}
use Rattle.sets.specs.Sets.{empty, keys, as_set, same_sets, present}
use Rattle.attrs.specs.Packed.{says, env_of, packed}
use Rattle.attrs.specs.declared.Attrs.{Attrs}
use Rattle.rules.specs.Sheet.{What, text, embed, mark, is_mark, Item}
use Rattle.rules.specs.Reading.{visible, Glyph}
use Rattle.rules.specs.Runs.{runs_from}
use Rattle.rules.specs.Sound.{AllFit}
use Rattle.layout.specs.Word.{shown_len}
use Rattle.layout.specs.declared.word.Item.{Item as Entry}
use Rattle.layout.specs.declared.head.Head.{Head}
use Rattle.layout.specs.Word.{what_of}
use Rattle.layout.specs.Force.{mark_on}
use Rattle.layout.specs.Chain.{chain, walks, item_at}
use Rattle.cursors.specs.declared.run.Run.{Run}
use Rattle.cursors.specs.declared.walk.Spot.{Spot}
use Rattle.cursors.specs.declared.walk.Runs.{Runs}
use Rattle.cursors.specs.Records.{records_of, runs_by, records_from}

-- ---- one item, by whether it is deleted, and what it is

-- Between two runs: a deleted item, or a mark.
unfoldable pub passes_of : Bool → What → Bool
passes_of d w = d || is_mark w

-- What is in force behind it.
unfoldable pub passed_by : Attrs → Bool → What → Attrs
passed_by a d w = cond d a (mark_on a w)

-- Does it end a text run: a text on which something else is in force, an embed, and a mark unless runs are joined.
unfoldable pub stops_at : Bool → Bool → What → Bool
stops_at j same (text s n) = not same
stops_at j same (embed x) = true
stops_at j same (mark k v) = not j

unfoldable pub ends_by : Bool → Attrs → Attrs → Bool → What → Bool
ends_by j f e d w = cond d false (stops_at j (same_sets keys (says f) (says e)) w)

abbrev pub past_of : Spot → Entry → Spot
past_of s it =
    record {
      at = it.next;
      todo = s.todo - 1;
      passed = s.passed + shown_len it.dead (what_of it.content);
      force = passed_by s.force it.dead (what_of it.content);
    }

-- ---- a place

abbrev pub rest : List ℕ → Spot → List Item
rest m s = chain s.todo m s.at

-- The records from here on.
unfoldable pub records_at : Bool → List ℕ → Spot → List Run
records_at j m s = records_from j s.passed (env_of s.force) (rest m s)

-- A set with no nulls and no byte that no reader sees: what is in force.
abbrev pub Plain : Attrs → Type 0
Plain a = a ≡ packed (as_set (env_of a))

-- What the walk asks of a place: the links go on to the end, the items are in order, and no sum wraps.
pub record Stands (m : List ℕ) (s : Spot) : Type 0 where
  pub used : ℕ
  pub walk : walks (length m) s.todo m s.at ≡ true
  pub fit : AllFit used (rest m s)
  pub room : s.passed + visible (rest m s) < 4294967296
  pub plain : Plain s.force

-- ---- a run

abbrev pub text_record : ℕ → ℕ → Attrs → Run
text_record s n a = record { embed = false; start = s; len = n; number = 0; count = length (present keys (says a)); attrs = a }

abbrev pub embed_record : ℕ → ℕ → Attrs → Run
embed_record s x a = record { embed = true; start = s; len = 1; number = x; count = length (present keys (says a)); attrs = a }

-- In front of the first item.
abbrev pub start_of : Head → Spot
start_of h = record { at = h.first; todo = h.items; passed = 0; force = packed empty }

-- The place of the next text or embed: the records are the same from there.
pub record Skipped (m : List ℕ) (s r : Spot) : Type 0 where
  pub stands : Stands m r
  pub same : (j : Bool) → records_at j m s ≡ records_at j m r
  pub stops : 0 < r.todo → passes_of (item_at m r.at).flags.dead (item_at m r.at).what ≡ false
  pub fewer : r.todo ≤ s.todo

-- Where a text run ends that has some units to the left of s: it is one record, and the records go on behind it.
pub record Gathered (j : Bool) (m : List ℕ) (s r : Spot) : Type 0 where
  pub stands : Stands m r
  pub run : (a : ℕ) (g : Glyph) (gs : List Glyph) → a + length (g ∷ gs) ≡ s.passed
      → records_of a (runs_by j (runs_from (g ∷ gs) (env_of s.force) (rest m s))) ≡ text_record a (r.passed - a) s.force ∷ records_at j m r
  pub fewer : r.todo ≤ s.todo
  pub on : s.passed ≤ r.passed

-- What an iterator over the runs has left.
abbrev pub left : Runs → List Run
left s = records_at s.joined s.items.now s.spot

-- Where it may be asked for the next run, and how many runs come at most: each takes an item.
abbrev pub Ready : Runs → Type 0
Ready s = Stands s.items.now s.spot

abbrev pub items_ahead : Runs → Count
items_ahead s = at_most s.spot.todo

-- What stays when it is asked, also where there is no run: it may be asked again, over the same list.
pub record Stays (s t : Runs) : Type 0 where
  pub ready : Ready t
  pub items : t.items.now ≡ s.items.now
  pub joined : t.joined ≡ s.joined
  pub fewer : t.spot.todo ≤ s.spot.todo

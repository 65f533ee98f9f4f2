-- Rule Format's walk, one item at a time.
use Rattle.std.specs.Prelude.{ℕ, ◌-◌, Bool, cond, not, ◌&&◌, ◌||◌, List, leb, ltb}
use Rattle.sets.specs.Sets.{Set, keys, bare}
use Rattle.rules.specs.Sheet.{What, width, is_mark}
use Rattle.rules.specs.Edits.{key_in, remember}
use Rattle.arena.specs.Writes.{kill_mem}
use Rattle.edits.specs.declared.format.Turn.{Turn}
use Rattle.edits.specs.declared.format.Turn.TheVariants.{Stop, Pass, Mark, Through, Cut}

-- A live item: a mark of a key that the set has; what is gone through; a text too long.
unfoldable pub live_turn : Set → ℕ → What → Turn
live_turn a n w = cond (key_in a w) Mark (cond (leb (width w) n) Through Cut)

-- The walk goes on to this item.
abbrev pub walks_over : ℕ → Set → Bool → What → Bool
walks_over n r d w = ltb 0 n || (not (bare keys r) && (d || is_mark w))

-- The walk ends before it; a deleted item.
unfoldable pub turn_of : Set → ℕ → Set → Bool → What → Turn
turn_of a n r d w = cond (walks_over n r d w) (cond d Pass (live_turn a n w)) Stop

-- What each turn on leaves: of the words, of the length, and of what is remembered.
abbrev pub killed_if : Turn → List ℕ → ℕ → List ℕ
killed_if Mark m n = kill_mem m n
killed_if _ m n = m

abbrev pub left_after : Turn → ℕ → What → ℕ
left_after Through n w = n - width w
left_after _ n w = n

abbrev pub remembered_after : Turn → Set → What → Set → Set
remembered_after Mark a w r = remember a w r
remembered_after _ a w r = r

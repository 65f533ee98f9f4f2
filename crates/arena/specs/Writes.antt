-- What each write leaves in a working copy.
use Rattle.std.specs.Prelude.{ℕ, ◌+◌, ◌-◌, ◌≤◌, true, false, cond, List, ◌++◌, get_or, set, take, drop, eqb}
use Rattle.rules.specs.Sheet as Sheet
use Rattle.rules.specs.Sheet.{What, text, embed, mark}
use Rattle.layout.specs.declared.head.Head.{Head}
use Rattle.layout.specs.declared.word.Content.{Content}
use Rattle.layout.specs.declared.word.Content.TheVariants.{Text, Embed, Mark}
use Rattle.layout.specs.declared.word.Item.{Item}
use Rattle.layout.specs.Word.{unpack_of, pack_of, relink_of}
use Rattle.layout.specs.Chain.{END, next_at}
use Rattle.layout.specs.Heads.{grown_head}

-- ---- a new item

-- Live, and added now, before item r.
abbrev pub fresh_item : Content → ℕ → Item
fresh_item c r = record { next = r; content = c; dead = false; added = true; gone = false }

-- Item n is new, before r ..
unfoldable pub front_mem : List ℕ → ℕ → ℕ → Content → List ℕ
front_mem m n r c = set m n (pack_of (fresh_item c r))

-- .. and item l links to it.
unfoldable pub after_mem : List ℕ → ℕ → ℕ → ℕ → Content → List ℕ
unfolding front_mem
after_mem m n l r c = set (front_mem m n r c) l (relink_of (get_or m l 0) n)

-- Item n is new, between l and r; no item is left of the first.
abbrev pub put_mem : List ℕ → ℕ → ℕ → ℕ → Content → List ℕ
put_mem m n l r c = cond (eqb l END) (front_mem m n r c) (after_mem m n l r c)

abbrev pub put_head : Head → ℕ → Head
put_head h l = grown_head h (cond (eqb l END) h.items h.first) (h.items + 1) h.units

-- ---- an item deleted: dead, and gone in this transaction
abbrev pub killed_item : Item → Item
killed_item it = record { next = it.next; content = it.content; dead = true; added = it.added; gone = true }

abbrev pub kill_mem : List ℕ → ℕ → List ℕ
kill_mem m n = set m n (pack_of (killed_item (unpack_of (get_or m n 0))))

-- ---- a text cut in two after k units
abbrev pub left_text : ℕ → Content → Content
left_text k (Text s l) = Text s k
left_text k (Embed n) = Embed n
left_text k (Mark i v) = Mark i v

abbrev pub right_text : ℕ → Content → Content
right_text k (Text s l) = Text (s + k) (l - k)
right_text k (Embed n) = Embed n
right_text k (Mark i v) = Mark i v

-- A text has k units, and lies within a sheet's units.
abbrev pub Within : ℕ → Content → Type 0
Within k (Text s l) = (k ≤ l) × (s + l ≤ 16384)
Within k (Embed n) = Unit {0}
Within k (Mark i v) = Unit {0}

-- An item with another link and content, and the same flags.
abbrev pub like_item : Item → ℕ → Content → Item
like_item it r c = record { next = r; content = c; dead = it.dead; added = it.added; gone = it.gone }

-- Item x is cut after k units; the right half is item n.
unfoldable pub cut_mem : List ℕ → ℕ → ℕ → ℕ → List ℕ
cut_mem m n x k =
    let it = unpack_of (get_or m x 0) in
    set (set m n (pack_of (like_item it (next_at m x) (right_text k it.content)))) x (pack_of (like_item it n (left_text k it.content)))

abbrev pub cut_head : Head → Head
cut_head h = grown_head h h.first (h.items + 1) h.units

-- ---- a copy of the first n words, into a working copy or back; the other words stay
abbrev pub copied : ℕ → List ℕ → List ℕ → List ℕ
copied n from to = take n from ++ drop n to

-- The word of an item that the item r follows.
abbrev pub content_of : What → Content
content_of (text s l) = Text s l
content_of (embed n) = Embed n
content_of (mark k v) = Mark k v

abbrev pub word_of : Sheet.Item → ℕ → ℕ
word_of i r = pack_of (record { next = r; content = content_of i.what; dead = i.flags.dead; added = i.flags.added; gone = i.flags.gone })

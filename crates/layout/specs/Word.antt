-- An item's word: what it says, and how it is made.
use Rattle.std.specs.Prelude.{ℕ, ◌+◌, ◌*◌, ◌/◌, ◌%◌, ◌<◌, Bool, true, false, cond, not, ◌&&◌, eqb, ltb}
use Rattle.rules.specs.Sheet.{What, text, embed, mark, is_mark, width}
use Rattle.layout.specs.declared.word.Content.{Content}
use Rattle.layout.specs.declared.word.Content.TheVariants.{Text, Embed, Mark}
use Rattle.layout.specs.declared.word.Item.{Item}

-- The code's content as the rules name it.
abbrev pub what_of : Content → What
what_of (Text s l) = text s l
what_of (Embed n) = embed n
what_of (Mark k v) = mark k v

-- What a kind and a payload say.
abbrev pub content_from : ℕ → ℕ → Content
content_from k p = cond (eqb k 0) (Text (p % 16384) (p / 16384)) (cond (eqb k 1) (Embed p) (Mark (p % 16) (p / 16)))

-- The kind and the payload in a word.
abbrev pub kind_in : ℕ → ℕ
kind_in w = w / 4096 % 4

abbrev pub payload_in : ℕ → ℕ
payload_in w = w / 4096 / 32 % 4294967296

-- The item that a word says. The low 12 bits are the link; then kind (2 bits), dead, added, gone, and a payload of 32 bits.
-- Everything but the link is a function of w / 4096.
abbrev pub unpack_of : ℕ → Item
unpack_of w =
    record {
      next = w % 4096;
      content = content_from (kind_in w) (payload_in w);
      dead = eqb (w / 4096 / 4 % 2) 1;
      added = eqb (w / 4096 / 8 % 2) 1;
      gone = eqb (w / 4096 / 16 % 2) 1;
    }

abbrev pub kind_of : Content → ℕ
kind_of (Text s l) = 0
kind_of (Embed n) = 1
kind_of (Mark k v) = 2

abbrev pub payload_of : Content → ℕ
payload_of (Text s l) = s + 16384 * l
payload_of (Embed n) = n
payload_of (Mark k v) = k + 16 * v

abbrev pub flag_of : Bool → ℕ
flag_of true = 1
flag_of false = 0

-- The word without its link.
abbrev pub rest_of : Content → Bool → Bool → Bool → ℕ
rest_of c d a g = kind_of c + 4 * flag_of d + 8 * flag_of a + 16 * flag_of g + 32 * payload_of c

abbrev pub pack_of : Item → ℕ
pack_of it = it.next + 4096 * rest_of it.content it.dead it.added it.gone

-- The word with another link.
abbrev pub relink_of : ℕ → ℕ → ℕ
relink_of w n = w / 4096 * 4096 + n

-- A content that a word can hold.
abbrev pub Fitting : Content → Type 0
Fitting (Text s l) = (s < 16384) × (l < 262144)
Fitting (Embed n) = n < 4294967296
Fitting (Mark k v) = (k < 16) × (v < 268435456)

-- The bits of a word in their range: none above the 49th, and one of the three kinds.
unfoldable pub in_range : ℕ → Bool
in_range w = ltb w 562949953421312 && ltb (w / 4096 % 4) 3

-- What an item adds to the visible length.
abbrev pub shown_len : Bool → What → ℕ
shown_len dead w = cond dead 0 (width w)

-- Only such an item changes what is in force.
abbrev pub live_mark : Bool → What → Bool
live_mark dead w = not dead && is_mark w

-- The sheet that lies in its owner's buffers: which sheet of the rules it is, when it is sound, and how the outcome of a call is stored.
use Rattle.std.specs.Prelude.{ℕ, zero, suc, ◌+◌, ◌/◌, ◌≤◌, ◌≡◌, Bool, true, cond, ◌&&◌, List, [], ◌∷◌, ◌++◌, length, get_or, set, take, drop, eqb, ltb, leb, Result}
use Rattle.std.specs.Result.{result_unwrap_or}
use Rattle.refusal.specs.declared.Refusal.{Refusal}
use Rattle.refusal.specs.Numbers.{refusal_in}
use Rattle.units.specs.Surrogates.{paired}
use Rattle.rules.specs.Sheet.{What, text, embed, mark, Item}
use Rattle.rules.specs.Sound.{honest, held}
use Rattle.rules.specs.Calls.{Sheet, Outcome, Call, call}
use Rattle.layout.specs.declared.word.Content.{Content}
use Rattle.layout.specs.declared.word.Content.TheVariants.{Text, Embed, Mark}
use Rattle.layout.specs.declared.head.Head.{Head}
use Rattle.layout.specs.Word.{pack_of, in_range}
use Rattle.layout.specs.Chain.{item_from, next_at, chain, walks, head_or}
use Rattle.layout.specs.Heads.{grown_head}

-- ---- the sheet of the rules
-- The items that a head leads to.
abbrev pub list_of : Head → List ℕ → List Item
list_of h m = chain h.items m h.first

-- Items count from 0, so the next unused number is how many there are.
abbrev pub model_of : Head → List ℕ → List ℕ → Sheet
model_of h m u = record { items = list_of h m; next = h.items; units = take h.units u }

-- ---- sound
-- What an item may hold: text that is not empty, lies in the used units and has no half pair; a mark of a key and a value that there are.
unfoldable pub what_ok : List ℕ → ℕ → What → Bool
what_ok u used (text s n) = ltb 0 n && (leb (s + n) used && paired (take n (drop s u)))
what_ok u used (embed e) = true
what_ok u used (mark k v) = ltb k 16 && ltb v 256

-- "Deleted now" only where deleted; added and deleted only where "deleted now".
abbrev pub flags_ok : Bool → Bool → Bool → Bool
flags_ok dead added gone = honest (record { dead = dead; added = added; gone = gone })

-- How many units of text.
abbrev pub len_of : What → ℕ
len_of (text s n) = n
len_of (embed e) = 0
len_of (mark k v) = 0

-- A word in order: its range, its flags, and what it holds.
unfoldable pub word_ok : List ℕ → ℕ → ℕ → Bool
word_ok u used w = in_range w && (honest (item_from 0 (w / 4096)).flags && what_ok u used (item_from 0 (w / 4096)).what)

-- Every word of f steps from s passes the test.
unfoldable pub each_ok : (ℕ → Bool) → ℕ → List ℕ → ℕ → Bool
each_ok ok zero m s = true
each_ok ok (suc f) m s = ok (get_or m s 0) && each_ok ok f m (next_at m s)

-- The buffers have their full size; the counts keep the limits; as many steps as there are items meet only items and end;
-- every word met is in order; the lengths of all texts add up to the used units.
unfoldable pub sound_of : Head → List ℕ → List ℕ → Bool
sound_of h m u =
    eqb (length m) 2048
    && (eqb (length u) 16384
    && (leb h.items 2048
    && (leb h.units 16384
    && (walks h.items h.items m h.first
    && (each_ok (word_ok u h.units) h.items m h.first && eqb (held (list_of h m)) h.units)))))

-- The same, part by part.
pub record Sound (h : Head) (m u : List ℕ) : Type 0 where
  pub words : length m ≡ 2048
  pub room : length u ≡ 16384
  pub items : h.items ≤ 2048
  pub used : h.units ≤ 16384
  pub walk : walks h.items h.items m h.first ≡ true
  pub each : each_ok (word_ok u h.units) h.items m h.first ≡ true
  pub whole : held (list_of h m) ≡ h.units

-- ---- stored
-- What the rules' item holds, as the code names it.
abbrev pub content_of : What → Content
content_of (text s n) = Text s n
content_of (embed e) = Embed e
content_of (mark k v) = Mark k v

-- The word of an item that is linked to n.
abbrev pub word_of : Item → ℕ → ℕ
word_of i n = pack_of (record { next = n; content = content_of i.what; dead = i.flags.dead; added = i.flags.added; gone = i.flags.gone })

-- Each item of the list in the word of its own number, linked to the one behind it; every other word as it was.
unfoldable pub stored : List Item → List ℕ → List ℕ
stored [] m = m
stored (i ∷ l) m = set (stored l m) i.num (word_of i (head_or l))

-- The used units at the front; behind them the buffer as it was.
abbrev pub stored_units : List ℕ → List ℕ → List ℕ
stored_units us u = us ++ drop (length us) u

-- ---- a call
-- What a call leaves: its refusal number, the head, and both buffers.
pub record Carried : Type 0 where
  pub refusal : ℕ
  pub head : Head
  pub words : List ℕ
  pub units : List ℕ

-- What an answer and the buffers beside it say: where it is refused, the head is the one that came in.
abbrev pub leaving : Head → Result Head Refusal → List ℕ → List ℕ → Carried
leaving h r m u = record { refusal = refusal_in r; head = result_unwrap_or r h; words = m; units = u }

-- Refused: the number, and all as it was.
abbrev pub kept_all : ℕ → Head → List ℕ → List ℕ → Carried
kept_all n h m u = record { refusal = n; head = h; words = m; units = u }

-- Accepted: the new sheet, stored.
abbrev pub stored_all : Sheet → Head → List ℕ → List ℕ → Carried
stored_all s h m u =
    record {
      refusal = 0;
      head = grown_head h (head_or s.items) s.next (length s.units);
      words = stored s.items m;
      units = stored_units s.units u;
    }

abbrev pub landed : Outcome → Head → List ℕ → List ℕ → Carried
landed o h m u = cond (eqb o.refusal 0) (stored_all o.sheet h m u) (kept_all o.refusal h m u)

-- A rule carried out on the sheet that lies in the buffers. One that is not sound is refused before all else.
unfoldable pub carry_by : (Sheet → Outcome) → Head → List ℕ → List ℕ → Carried
carry_by f h m u = cond (sound_of h m u) (landed (f (model_of h m u)) h m u) (kept_all 9 h m u)

abbrev pub carry : Call → Head → List ℕ → List ℕ → Carried
carry c h m u = carry_by (call c) h m u

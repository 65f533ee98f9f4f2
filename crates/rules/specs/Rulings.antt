-- What a call asks for, before it is granted or refused; the refusals one by one; and what a sound sheet is.
use Rattle.std.specs.Prelude.{ℕ, ◌+◌, ◌-◌, ◌≤◌, ◌<◌, min, ◌≡◌, Bool, true, false, cond, not, ◌||◌, List, [], ◌∷◌, ◌++◌, ◌↔◌, eqb, ltb, length}
use Rattle.units.specs.Surrogates.{paired, splits_pair}
use Rattle.sets.specs.Sets.{is, Set}
use Rattle.rules.specs.Sheet.{What, text, embed, mark, Item, begin}
use Rattle.rules.specs.Reading.{Op, insert, delete, retain}
use Rattle.rules.specs.Places.{At, whole, stay, Move}
use Rattle.rules.specs.Edits.{by_index, plain_text, plain_embed, insert_with, format, remove}
use Rattle.rules.specs.Delta.{delta}
use Rattle.rules.specs.Sound.{SoundList}
use Rattle.rules.specs.Calls.{Sheet, Outcome, refuse, visible_units, bad_range, too_long, roomy, Body, words, object, Call, insert_text, insert_text_with, insert_embed, insert_embed_with, format_range, remove_range, apply_delta, begin_now, check, laid_out, new_units, AllPaired}

-- The limits: a list of at most 2,048 items, at most 16,384 units.
pub record Within (s : Sheet) : Type 0 where
  pub items : length s.items ≤ 2048
  pub units : length s.units ≤ 16384

-- An embed's number has 32 bits.
abbrev pub InWord : What → Type 0
InWord (text s n) = Unit {0}
InWord (embed e) = e < 4294967296
InWord (mark k v) = Unit {0}

abbrev pub AllInWord : List Item → Type 0
AllInWord [] = Unit {0}
AllInWord (i ∷ l) = InWord i.what × AllInWord l

-- A sound sheet: its list is sound, no piece holds half a pair, embeds are in range, and it keeps the limits.
pub record SoundSheet (s : Sheet) : Type 0 where
  pub list : SoundList s.items s.next (length s.units)
  pub pairs : AllPaired s.units s.items
  pub embeds : AllInWord s.items
  pub within : Within s

-- A ruling: what is wrong with the call (3, 2 or 1; 0 for nothing), and the list, its next number and the units that the rules give.
pub record Ruling : Type 0 where
  pub fault : ℕ
  pub place : At
  pub units : List ℕ

abbrev pub seen : Sheet → List ℕ
seen s = visible_units s.units s.items

abbrev pub as_is : Sheet → Ruling
as_is s = record { fault = 0; place = stay s.items s.next; units = s.units }

abbrev pub text_ruling : ℕ → List ℕ → (What → Move) → Sheet → Ruling
text_ruling i [] f s = as_is s
text_ruling i (u ∷ us) f s = record {
  fault = cond (not (paired (u ∷ us))) 3 (cond (splits_pair (seen s) i) 2 0);
  place = by_index i (f (text (length s.units) (length (u ∷ us)))) s.items s.next;
  units = s.units ++ (u ∷ us);
}

abbrev pub embed_ruling : ℕ → ℕ → (What → Move) → Sheet → Ruling
embed_ruling i e f s = record { fault = cond (splits_pair (seen s) i) 2 0; place = by_index i (f (embed e)) s.items s.next; units = s.units }

abbrev pub ruling : Call → Sheet → Ruling
ruling (insert_text i us) s = text_ruling i us plain_text s
ruling (insert_text_with i us a) s = text_ruling i us (λ w. insert_with w a) s
ruling (insert_embed i e) s = embed_ruling i e plain_embed s
ruling (insert_embed_with i e a) s = embed_ruling i e (λ w. insert_with w a) s
ruling (format_range i n a) s = record { fault = cond (bad_range (seen s) i n) 2 0; place = by_index i (format a n) s.items s.next; units = s.units }
ruling (remove_range i n) s = record { fault = cond (bad_range (seen s) i n) 2 (cond (too_long (seen s) i n) 1 0); place = remove i n s.items s.next; units = s.units }
ruling (apply_delta ops) s = record { fault = check (seen s) 0 ops; place = delta (laid_out (length s.units) ops) s.items s.next; units = s.units ++ new_units ops }
ruling begin_now s = record { fault = 0; place = stay (begin s.items) s.next; units = s.units }

-- the sheet as ruled
abbrev pub ruled : Ruling → Sheet
ruled r = record { items = whole r.place; next = r.place.next; units = r.units }

-- the units that a call brings
abbrev pub brought : Call → List ℕ
brought (insert_text i us) = us
brought (insert_text_with i us a) = us
brought (insert_embed i e) = []
brought (insert_embed_with i e a) = []
brought (format_range i n a) = []
brought (remove_range i n) = []
brought (apply_delta ops) = new_units ops
brought begin_now = []

-- A faulty call is refused with its fault, one that does not fit with 4, and else the sheet is as ruled.
abbrev pub decided : Ruling → Sheet → Outcome
decided r s = let go = roomy r.place r.units s in cond (eqb r.fault 0) go (refuse r.fault s)

-- The four reasons, each by itself. UNITS: handed text has a surrogate without its other half.
abbrev pub unwhole : Call → Sheet → Bool
unwhole (insert_text i us) s = not (paired us)
unwhole (insert_text_with i us a) s = not (paired us)
unwhole (insert_embed i e) s = false
unwhole (insert_embed_with i e a) s = false
unwhole (format_range i n a) s = false
unwhole (remove_range i n) s = false
unwhole (apply_delta ops) s = eqb (check (seen s) 0 ops) 3
unwhole begin_now s = false

-- PAIR: the index, or the end of a range inside the visible text, stands inside a pair. Empty text has no place to be wrong.
abbrev pub text_in_pair : ℕ → List ℕ → Sheet → Bool
text_in_pair i [] s = false
text_in_pair i (u ∷ us) s = splits_pair (seen s) i

abbrev pub in_pair : Call → Sheet → Bool
in_pair (insert_text i us) s = text_in_pair i us s
in_pair (insert_text_with i us a) s = text_in_pair i us s
in_pair (insert_embed i e) s = splits_pair (seen s) i
in_pair (insert_embed_with i e a) s = splits_pair (seen s) i
in_pair (format_range i n a) s = splits_pair (seen s) i || splits_pair (seen s) (i + n)
in_pair (remove_range i n) s = splits_pair (seen s) i || splits_pair (seen s) (i + n)
in_pair (apply_delta ops) s = eqb (check (seen s) 0 ops) 2
in_pair begin_now s = false

-- SHORT: a removal of more units than stand right of its place.
abbrev pub too_far : Call → Sheet → Bool
too_far (insert_text i us) s = false
too_far (insert_text_with i us a) s = false
too_far (insert_embed i e) s = false
too_far (insert_embed_with i e a) s = false
too_far (format_range i n a) s = false
too_far (remove_range i n) s = ltb (length (seen s) - i) n
too_far (apply_delta ops) s = eqb (check (seen s) 0 ops) 1
too_far begin_now s = false

-- ROOM: what the rules give passes a limit.
abbrev pub crowded : Call → Sheet → Bool
crowded c s = let r = ruling c s in ltb 2048 (length (whole r.place)) || ltb 16384 (length r.units)

-- Exactly when each number is given, both ways, from the four reasons: 3 before 2 before 1 before 4, and no other.
pub record Exactly (units pair short room : Bool) (r : ℕ) : Type 0 where
  pub three : (r ≡ 3) ↔ (units ≡ true)
  pub two : (r ≡ 2) ↔ ((units ≡ false) × (pair ≡ true))
  pub one : (r ≡ 1) ↔ ((units ≡ false) × (pair ≡ false) × (short ≡ true))
  pub four : (r ≡ 4) ↔ ((units ≡ false) × (pair ≡ false) × (short ≡ false) × (room ≡ true))
  pub zero : (r ≡ 0) ↔ ((units ≡ false) × (pair ≡ false) × (short ≡ false) × (room ≡ false))
  pub other : r ≤ 4

-- A call as it can be handed in: its sets hold values up to 255, and its embeds are numbers of 32 bits.
abbrev pub FineSet : (ℕ → Type 0) → Set → Type 0
FineSet P a = (k v : ℕ) → a k ≡ is v → P v

abbrev pub Byte : ℕ → Type 0
Byte v = v < 256

abbrev pub FineBody : Body → Type 0
FineBody (words us) = Unit {0}
FineBody (object e) = e < 4294967296

abbrev pub FineOps : List (Op Body) → Type 0
FineOps [] = Unit {0}
FineOps (insert b a ∷ ops) = FineBody b × FineSet Byte a × FineOps ops
FineOps (delete n ∷ ops) = FineOps ops
FineOps (retain n a ∷ ops) = FineSet Byte a × FineOps ops

abbrev pub FineCall : Call → Type 0
FineCall (insert_text i us) = Unit {0}
FineCall (insert_text_with i us a) = FineSet Byte a
FineCall (insert_embed i e) = e < 4294967296
FineCall (insert_embed_with i e a) = (e < 4294967296) × FineSet Byte a
FineCall (format_range i n a) = FineSet Byte a
FineCall (remove_range i n) = Unit {0}
FineCall (apply_delta ops) = FineOps ops
FineCall begin_now = Unit {0}

-- every call but Begin
abbrev pub Edit : Call → Type 0
Edit (insert_text i us) = Unit {0}
Edit (insert_text_with i us a) = Unit {0}
Edit (insert_embed i e) = Unit {0}
Edit (insert_embed_with i e a) = Unit {0}
Edit (format_range i n a) = Unit {0}
Edit (remove_range i n) = Unit {0}
Edit (apply_delta ops) = Unit {0}
Edit begin_now = ⊥

-- In a delta: what is wrong with one operation, whose place in the old visible text is c ..
abbrev pub fault_at : List ℕ → ℕ → Op Body → ℕ
fault_at us c (insert (words t) a) = cond (paired t) 0 3
fault_at us c (insert (object e) a) = 0
fault_at us c (delete n) = cond (splits_pair us (c + n)) 2 (cond (too_long us c n) 1 0)
fault_at us c (retain n a) = cond (splits_pair us (c + n)) 2 0

-- .. and the place behind it: what is inserted stands left of the place, and no place is past the end.
abbrev pub behind : List ℕ → ℕ → Op Body → ℕ
behind us c (insert b a) = c
behind us c (delete n) = min (length us) (c + n)
behind us c (retain n a) = min (length us) (c + n)

-- The first operation, in order from place c, that something is wrong with, has the fault r.
pub data FirstFault (us : List ℕ) (r : ℕ) : ℕ → List (Op Body) → Type 0 where
  here : {c : ℕ} {op : Op Body} {ops : List (Op Body)} → fault_at us c op ≡ r → FirstFault us r c (op ∷ ops)
  later : {c : ℕ} {op : Op Body} {ops : List (Op Body)} → fault_at us c op ≡ 0 → FirstFault us r (behind us c op) ops → FirstFault us r c (op ∷ ops)

-- Nothing is wrong with any operation.
pub data NoFault (us : List ℕ) : ℕ → List (Op Body) → Type 0 where
  end : {c : ℕ} → NoFault us c []
  on : {c : ℕ} {op : Op Body} {ops : List (Op Body)} → fault_at us c op ≡ 0 → NoFault us (behind us c op) ops → NoFault us c (op ∷ ops)

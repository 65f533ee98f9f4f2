-- The units and attributes of a line, word by word.
use Rattle.std.specs.Prelude.{◌≡◌, Bool, true, false, cond, List, ℕ, zero, suc, ◌+◌, ◌-◌, ◌≤◌, eqb, ltb, length, get_or, take, drop, set, Option, Some, None}
use Rattle.refusal.specs.declared.Refusal.TheVariants.{Key}
use Rattle.sets.specs.Sets.{empty}
use Rattle.attrs.specs.Packed.{packed, takes, with_at}
use Rattle.words.specs.Words.{word_at}
use Rattle.words.specs.declared.words.Word.{Word as Found}
use Rattle.words.specs.Numbers.{piece_of}
use Rattle.words.specs.declared.numbers.Piece.{Piece}
use Rattle.words.specs.declared.numbers.Piece.TheVariants.{Unit, Pair}
use Rattle.lines.specs.declared.fields.Field.{Field}
use Rattle.lines.specs.declared.fields.Field.TheVariants.{Line, Op, Word}
use Rattle.lines.specs.declared.fields.Read.{Read}
use Rattle.lines.specs.declared.fields.End.{End}
use Rattle.lines.specs.declared.fields.End.TheVariants.{More, Line as AtLine, Op as AtOp, Wrong}
use Rattle.lines.specs.declared.fields.Fields.{Fields}

-- The byte of a word of one byte; 0 for any other.
abbrev pub letter_of : List ℕ → ℕ
letter_of w = cond (eqb (length w) 1) (get_or w 0 0) 0

-- The bytes of s from a up to e.
abbrev pub part : List ℕ → ℕ → ℕ → List ℕ
part s a e = take (e - a) (drop a s)

-- A `;` by itself ends an operation.
unfoldable pub field_of : List ℕ → ℕ → ℕ → Field
field_of s a e = cond (eqb a e) Line (cond (eqb (letter_of (part s a e)) 59) Op (Word (piece_of (part s a e))))

abbrev pub read_of : List ℕ → Found → Read
read_of s w = record { field = field_of s w.start w.end; next = w.end }

abbrev pub read_at : List ℕ → ℕ → Read
read_at s from = read_of s (word_at s from)

pub record ReadIs (s : List ℕ) (from : ℕ) (r : Read) : Type 0 where
  pub is : r ≡ read_at s from
  pub high : r.next ≤ length s

-- ---- where reading stands

abbrev pub more : End → Bool
more More = true
more _ = false

abbrev pub at_line : End → Bool
at_line AtLine = true
at_line _ = false

abbrev pub at_op : End → Bool
at_op AtOp = true
at_op _ = false

-- ---- what one word adds

abbrev pub start_at : ℕ → ℕ → Fields
start_at at count = record { at = at; count = count; attrs = packed empty; refusal = None; end = More }

abbrev pub stopped_at : Fields → ℕ → End → Fields
stopped_at f at end = record { at = at; count = f.count; attrs = f.attrs; refusal = f.refusal; end = end }

-- An attribute out of range leaves the set as it is, and its refusal stays.
abbrev pub pair_field : Fields → ℕ → Bool → ℕ → ℕ → Fields
pair_field f at marks k v =
    cond marks
    (record { at = at; count = f.count; attrs = (with_at f.attrs k v).attrs; refusal = cond (takes k v) f.refusal (Some Key); end = More })
    (stopped_at f at Wrong)

-- A unit where there is room.
abbrev pub unit_field : Fields → ℕ → ℕ → Fields
unit_field f at room =
    cond (ltb f.count room)
    (record { at = at; count = f.count + 1; attrs = f.attrs; refusal = f.refusal; end = More })
    (stopped_at f at Wrong)

abbrev pub piece_field : Fields → ℕ → Bool → ℕ → Option Piece → Fields
piece_field f at marks room (Some (Unit u)) = unit_field f at room
piece_field f at marks room (Some (Pair k v)) = pair_field f at marks k v
piece_field f at marks room None = stopped_at f at Wrong

abbrev pub with_field : Fields → ℕ → Bool → ℕ → Field → Fields
with_field f at marks room Line = stopped_at f at AtLine
with_field f at marks room Op = stopped_at f at AtOp
with_field f at marks room (Word p) = piece_field f at marks room p

abbrev pub piece_units : List ℕ → ℕ → Option Piece → List ℕ
piece_units units n (Some (Unit u)) = set units n u
piece_units units n (Some (Pair k v)) = units
piece_units units n None = units

abbrev pub with_units : List ℕ → ℕ → Field → List ℕ
with_units units n Line = units
with_units units n Op = units
with_units units n (Word p) = piece_units units n p

pub record Takes (f : Fields) (r : Read) (marks : Bool) (before after : List ℕ) (g : Fields) : Type 0 where
  pub is : g ≡ with_field f r.next marks (length before) r.field
  pub units : after ≡ with_units before f.count r.field
  pub at : g.at ≡ r.next
  pub low : f.count ≤ g.count
  pub high : f.count ≤ length before → g.count ≤ length before
  pub long : length after ≡ length before

-- ---- what the words of a line add

pub record Gathered : Type 0 where
  pub fields : Fields
  pub units : List ℕ

-- One turn after the other while a test holds, at most so many.
unfoldable pub turns : {A : Type 0} → ℕ → (A → Bool) → (A → A) → A → A
turns zero p f a = a
turns (suc n) p f a = cond (p a) (turns n p f (f a)) a

abbrev pub gathers_on : Gathered → Bool
gathers_on g = more g.fields.end

abbrev pub one_field : List ℕ → Bool → Gathered → Gathered
one_field s marks g =
    let r = read_at s g.fields.at in
    record { fields = with_field g.fields r.next marks (length g.units) r.field; units = with_units g.units g.fields.count r.field }

abbrev pub gather : ℕ → List ℕ → Bool → Fields → List ℕ → Gathered
gather n s marks f units = turns n gathers_on (one_field s marks) (record { fields = f; units = units })

pub record Gathers (s : List ℕ) (f : Fields) (marks : Bool) (before after : List ℕ) (g : Fields) : Type 0 where
  pub is : record { fields = g; units = after } ≡ gather (length s + 1) s marks f before
  pub at : g.at ≤ length s
  pub low : f.count ≤ g.count
  pub high : f.count ≤ length before → g.count ≤ length before
  pub long : length after ≡ length before

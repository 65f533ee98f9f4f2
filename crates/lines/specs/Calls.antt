-- The call that a line asks for.
use Rattle.std.specs.Prelude.{◌≡◌, Bool, true, false, cond, ◌||◌, List, [], ℕ, ◌+◌, ◌≤◌, eqb, length, get_or, Option, Some, None, IfSome}
use Rattle.sets.specs.Sets.{empty}
use Rattle.attrs.specs.Packed.{packed}
use Rattle.words.specs.Words.{word_at}
use Rattle.words.specs.Numbers.{number_of}
use Rattle.lines.specs.Fields.{letter_of, part, read_at, start_at, at_line, gather, Gathered}
use Rattle.words.specs.declared.words.Word.{Word as Found}
use Rattle.lines.specs.declared.fields.Field.{Field}
use Rattle.lines.specs.declared.fields.Field.TheVariants.{Line, Op, Word}
use Rattle.lines.specs.declared.fields.Fields.{Fields}
use Rattle.lines.specs.declared.calls.Call.{Call}
use Rattle.lines.specs.declared.calls.Call.TheVariants.{Silent, Insert, InsertWith, Embed, EmbedWith, Format, Remove, Delta, Entry, Begin, Query, Show, Fresh}
use Rattle.lines.specs.declared.calls.Ranged.{Ranged as Ranges}
use Rattle.lines.specs.declared.calls.Ranged.TheVariants.{Embed as PlainEmbed, EmbedWith as MarkedEmbed, Format as Marking, Remove as Removal}
use Rattle.lines.specs.declared.calls.Kind.{Kind}
use Rattle.lines.specs.declared.calls.Kind.TheVariants.{Plain, Text, Ranged, Delta as Ops, Entry as Asking}
use Rattle.lines.specs.declared.calls.Asked.{Asked}
use Rattle.lines.specs.declared.calls.Numbered.{Numbered}

-- g, k, m, s, t and v ask the table of names and values.
unfoldable pub asking_of : ℕ → Option Kind
asking_of c = cond (eqb c 103 || (eqb c 107 || (eqb c 109 || (eqb c 115 || (eqb c 116 || eqb c 118))))) (Some Asking) None

-- b, n, p and q stand alone; i and w have an index and text; e, f, r and x two numbers; d operations. No attributes behind i, e and r.
unfoldable pub kind_of : ℕ → Option Kind
kind_of c =
    cond (eqb c 98) (Some (Plain Begin))
    (cond (eqb c 110) (Some (Plain Fresh))
    (cond (eqb c 113) (Some (Plain Query))
    (cond (eqb c 112) (Some (Plain Show))
    (cond (eqb c 105) (Some (Text false))
    (cond (eqb c 119) (Some (Text true))
    (cond (eqb c 101) (Some (Ranged PlainEmbed))
    (cond (eqb c 120) (Some (Ranged MarkedEmbed))
    (cond (eqb c 102) (Some (Ranged Marking))
    (cond (eqb c 114) (Some (Ranged Removal))
    (cond (eqb c 100) (Some Ops) (asking_of c)))))))))))

abbrev pub numbered : List ℕ → Found → Numbered
numbered s w = record { number = number_of 10 (part s w.start w.end); next = w.end }

abbrev pub number_at : List ℕ → ℕ → Numbered
number_at s from = numbered s (word_at s from)

pub record NumberIs (s : List ℕ) (from : ℕ) (r : Numbered) : Type 0 where
  pub is : r ≡ number_at s from
  pub high : r.next ≤ length s

abbrev pub bare_asked : Call → Asked
bare_asked call = record { call = call; count = 0; attrs = packed empty; refusal = None }

-- A call whose line has a word too many, or one that does not belong there, is none.
abbrev pub asked_of : Call → Fields → Option Asked
asked_of call f =
    cond (at_line f.end)
    (Some (record { call = call; count = f.count; attrs = f.attrs; refusal = f.refusal }))
    None

-- ---- a letter alone

abbrev pub plain_with : Field → Call → Option Asked
plain_with Line call = Some (bare_asked call)
plain_with Op call = None
plain_with (Word p) call = None

abbrev pub plain_asked : List ℕ → ℕ → Call → Option Asked
plain_asked s from call = plain_with (read_at s from).field call

-- ---- text

abbrev pub text_call : Bool → ℕ → Call
text_call marks index = cond marks (InsertWith index) (Insert index)

abbrev pub fields_from : List ℕ → ℕ → Bool → List ℕ → Gathered
fields_from s from marks units = gather (length s + 1) s marks (start_at from 0) units

abbrev pub text_with : List ℕ → Option ℕ → ℕ → Bool → List ℕ → Option Asked
text_with s (Some index) next marks units = asked_of (text_call marks index) (fields_from s next marks units).fields
text_with s None next marks units = None

abbrev pub units_with : List ℕ → Option ℕ → ℕ → Bool → List ℕ → List ℕ
units_with s (Some index) next marks units = (fields_from s next marks units).units
units_with s None next marks units = units

abbrev pub text_asked : List ℕ → ℕ → Bool → List ℕ → Option Asked
text_asked s from marks units = let n = number_at s from in text_with s n.number n.next marks units

abbrev pub text_units : List ℕ → ℕ → Bool → List ℕ → List ℕ
text_units s from marks units = let n = number_at s from in units_with s n.number n.next marks units

pub record TextAsked (s : List ℕ) (from : ℕ) (marks : Bool) (before after : List ℕ) (r : Option Asked) : Type 0 where
  pub is : r ≡ text_asked s from marks before
  pub units : after ≡ text_units s from marks before
  pub high : IfSome r (λ a. a.count ≤ length before)
  pub long : length after ≡ length before

-- ---- two numbers

abbrev pub ranged_of : Ranges → ℕ → ℕ → Call
ranged_of PlainEmbed index n = Embed index n
ranged_of MarkedEmbed index n = EmbedWith index n
ranged_of Marking index n = Format index n
ranged_of Removal index n = Remove index n

abbrev pub marks_of : Ranges → Bool
marks_of PlainEmbed = false
marks_of MarkedEmbed = true
marks_of Marking = true
marks_of Removal = false

abbrev pub ranged_with : List ℕ → Option ℕ → Option ℕ → ℕ → Ranges → Option Asked
ranged_with s (Some index) (Some n) next c = asked_of (ranged_of c index n) (fields_from s next (marks_of c) []).fields
ranged_with s (Some index) None next c = None
ranged_with s None n next c = None

abbrev pub ranged_asked : List ℕ → ℕ → Ranges → Option Asked
ranged_asked s from c =
    let a = number_at s from in
    let b = number_at s a.next in
    ranged_with s a.number b.number b.next c

-- There is no text, so no units are counted.
pub record RangedAsked (s : List ℕ) (from : ℕ) (c : Ranges) (r : Option Asked) : Type 0 where
  pub is : r ≡ ranged_asked s from c
  pub none : IfSome r (λ a. a.count ≤ 0)

-- ---- any line

abbrev pub asked_by : Option Kind → List ℕ → ℕ → List ℕ → Option Asked
asked_by (Some (Plain call)) s from units = plain_asked s from call
asked_by (Some (Text marks)) s from units = text_asked s from marks units
asked_by (Some (Ranged c)) s from units = ranged_asked s from c
asked_by (Some Ops) s from units = Some (bare_asked Delta)
asked_by (Some Asking) s from units = Some (bare_asked Entry)
asked_by None s from units = None

abbrev pub units_by : Option Kind → List ℕ → ℕ → List ℕ → List ℕ
units_by (Some (Plain call)) s from units = units
units_by (Some (Text marks)) s from units = text_units s from marks units
units_by (Some (Ranged c)) s from units = units
units_by (Some Ops) s from units = units
units_by (Some Asking) s from units = units
units_by None s from units = units

-- Nothing is asked by an empty line, or one whose first word begins with `#`.
abbrev pub silent : List ℕ → Found → Bool
silent s w = eqb w.start w.end || eqb (get_or s w.start 0) 35

abbrev pub name_of : List ℕ → Found → ℕ
name_of s w = letter_of (part s w.start w.end)

unfoldable pub asked_in : List ℕ → Found → List ℕ → Option Asked
asked_in s w units = cond (silent s w) (Some (bare_asked Silent)) (asked_by (kind_of (name_of s w)) s w.end units)

unfoldable pub units_in : List ℕ → Found → List ℕ → List ℕ
units_in s w units = cond (silent s w) units (units_by (kind_of (name_of s w)) s w.end units)

pub record CallAsked (s before after : List ℕ) (r : Option Asked) : Type 0 where
  pub is : r ≡ asked_in s (word_at s 0) before
  pub units : after ≡ units_in s (word_at s 0) before
  pub high : IfSome r (λ a. a.count ≤ length before)

-- What an item does to the assembler, in the code's own types: the rules' steps, with a count where the rules keep a run's glyphs.
use Rattle.std.specs.Prelude.{ℕ, ◌+◌, Bool, true, false, cond, not, ◌&&◌, Option, None, Some}
use Rattle.attrs.specs.declared.Attrs.{Attrs}
use Rattle.sets.specs.Sets.{Slot, absent, is, empty, at}
use Rattle.attrs.specs.Packed.{says, env_of, packed, onto, with_at, update_at}
use Rattle.rules.specs.Sheet.{What, text, embed, mark, Flags}
use Rattle.rules.specs.Reading.{Seen, live, before}
use Rattle.rules.specs.Event.{Change, stays, becomes, change}
use Rattle.ops.specs.declared.delta.Inserted.TheVariants.{Text, Embed}
use Rattle.ops.specs.declared.delta.Op.{Op}
use Rattle.ops.specs.declared.delta.Op.TheVariants.{Insert, Delete, Retain}
use Rattle.ops.specs.declared.delta.DeltaOp.{DeltaOp}
use Rattle.assembling.specs.declared.runs.Kind.{Kind}
use Rattle.assembling.specs.declared.runs.Kind.TheVariants.{Inserting, Deleting, Retaining}
use Rattle.assembling.specs.declared.runs.Run.{Run}
use Rattle.assembling.specs.declared.assembler.Assembler.{Assembler}
use Rattle.assembling.specs.declared.runs.Sight.{Sight}
use Rattle.assembling.specs.declared.runs.Turn.{Turn}
use Rattle.assembling.specs.declared.runs.Turn.TheVariants.{Goes, Starts}
use Rattle.assembling.specs.declared.marks.Pending.{Pending}
use Rattle.assembling.specs.declared.marks.Pending.TheVariants.{Stays, Drops, Takes}
use Rattle.assembling.specs.declared.assembler.Passed.{Passed}

abbrev pub flags_of : Bool → Bool → Bool → Flags
flags_of d a g = record { dead = d; added = a; gone = g }

-- The two readings of an event, or of what undoes it.
abbrev pub was_by : Bool → Seen
was_by false = before
was_by true = live

abbrev pub is_by : Bool → Seen
is_by false = live
is_by true = before

abbrev pub sight_of : Bool → Flags → Sight
sight_of back f = record { was = was_by back f; is = is_by back f }

-- ---- the run

abbrev pub of_kind : Kind → ℕ → Option Run
of_kind k w = Some (record { kind = k; width = w })

-- what the run has counted, and what of it is text to insert
abbrev pub counted : Option Run → ℕ
counted None = 0
counted (Some r) = r.width

abbrev pub inserted_in : Kind → ℕ → ℕ
inserted_in Inserting n = n
inserted_in Deleting n = 0
inserted_in Retaining n = 0

abbrev pub inserted_by : Option Run → ℕ
inserted_by None = 0
inserted_by (Some r) = inserted_in r.kind r.width

abbrev pub load : Assembler → ℕ
load a = a.units + counted a.run

abbrev pub found : Op → Attrs → Option DeltaOp
found o a = Some (record { op = o; attrs = a })

abbrev pub kind_op : Kind → ℕ → Assembler → Option DeltaOp
kind_op Inserting n a = found (Insert (Text a.units n)) a.current
kind_op Deleting n a = found (Delete n) (packed empty)
kind_op Retaining n a = found (Retain n) a.attrs

abbrev pub run_op : Option Run → Assembler → Option DeltaOp
run_op None a = None
run_op (Some r) a = kind_op r.kind r.width a

abbrev pub same_kind : Kind → Kind → Bool
same_kind Inserting Inserting = true
same_kind Deleting Deleting = true
same_kind Retaining Retaining = true
same_kind _ _ = false

-- A run of kind k and an item of that kind and width w: it grows; any other ends.
abbrev pub grow_by : Kind → ℕ → Option Run → Turn
grow_by k w None = Starts (of_kind k w)
grow_by k w (Some r) = cond (same_kind r.kind k) (Goes (of_kind k (r.width + w))) (Starts (of_kind k w))

abbrev pub grow_insert_by : ℕ → Option Run → Turn
grow_insert_by w r = grow_by Inserting w r

abbrev pub grow_delete_by : ℕ → Option Run → Turn
grow_delete_by w r = grow_by Deleting w r

abbrev pub grow_retain_by : ℕ → Option Run → Turn
grow_retain_by w r = grow_by Retaining w r

abbrev pub grown_by : Bool → Bool → ℕ → Option Run → Turn
grown_by false false w r = Goes r
grown_by false true w r = grow_insert_by w r
grown_by true false w r = grow_delete_by w r
grown_by true true w r = grow_retain_by w r

-- ---- the assembler

abbrev pub on_run : Assembler → Option Run → ℕ → Assembler
on_run a r n = record { run = r; units = n; attrs = a.attrs; current = a.current; old = a.old }

abbrev pub turned_by : Assembler → Turn → Passed
turned_by a (Goes r) = record { first = None; second = None; asm = on_run a r a.units }
turned_by a (Starts r) = record { first = run_op a.run a; second = None; asm = on_run a r (a.units + inserted_by a.run) }

abbrev pub text_by : Bool → Bool → ℕ → Assembler → Passed
text_by was now w a = turned_by a (grown_by was now w a.run)

-- with an embed told besides
abbrev pub tells_too : Option DeltaOp → Passed → Passed
tells_too m p = record { first = p.first; second = m; asm = p.asm }

abbrev pub embed_by : Bool → Bool → ℕ → Assembler → Passed
embed_by was now e a =
    cond (not was && now) (tells_too (found (Insert (Embed e)) a.current) (turned_by a (Starts None))) (text_by was now 1 a)

-- ---- marks

abbrev pub slot_by : Slot → Pending
slot_by absent = Drops
slot_by (is v) = Takes v

abbrev pub pending_of : Change → Pending
pending_of stays = Stays
pending_of (becomes s) = slot_by s

abbrev pub breaks_kind : Pending → Bool → Kind → Bool
breaks_kind p now Inserting = now
breaks_kind p now Deleting = false
breaks_kind Stays now Retaining = false
breaks_kind Drops now Retaining = true
breaks_kind (Takes v) now Retaining = true

abbrev pub breaks_by : Pending → Bool → Option Run → Bool
breaks_by p now None = false
breaks_by p now (Some r) = breaks_kind p now r.kind

abbrev pub changed_by : Attrs → Pending → ℕ → Attrs
changed_by a Stays k = a
changed_by a Drops k = onto a (at k absent (says a))
changed_by a (Takes v) k = (with_at a k v).attrs

abbrev pub past_by : Attrs → Bool → ℕ → ℕ → Attrs
past_by a seen k v = cond seen (update_at a k v).attrs a

abbrev pub mark_turn : Pending → Bool → Option Run → Turn
mark_turn p now r = cond (breaks_by p now r) (Starts None) (Goes r)

abbrev pub pending_by : Bool → Bool → ℕ → ℕ → Assembler → Pending
pending_by was now k v a = pending_of (change was now (env_of a.old k) (env_of a.current k) (says a.attrs k) v)

abbrev pub with_sets : Passed → Attrs → Attrs → Attrs → Passed
with_sets p a c o =
    record {
      first = p.first;
      second = p.second;
      asm = record { run = p.asm.run; units = p.asm.units; attrs = a; current = c; old = o };
    }

abbrev pub mark_by : Bool → Bool → ℕ → ℕ → Assembler → Passed
mark_by was now k v a =
    with_sets (turned_by a (mark_turn (pending_by was now k v a) now a.run))
    (changed_by a.attrs (pending_by was now k v a) k)
    (past_by a.current now k v)
    (past_by a.old was k v)

abbrev pub pass_by : Bool → Bool → What → Assembler → Passed
pass_by was now (text s n) a = text_by was now n a
pass_by was now (embed e) a = embed_by was now e a
pass_by was now (mark k v) a = mark_by was now k v a

abbrev pub fresh_asm : Assembler
fresh_asm = record { run = None; units = 0; attrs = packed empty; current = packed empty; old = packed empty }

-- The bench pieces, carried out in memory from a fresh head, whatever lies in the buffers; what they say is asked of the calls.
use Rattle.std.specs.Prelude.{ℕ, true, false, cond, List, [], ◌∷◌, map}
use Rattle.sets.specs.Sets.{keys}
use Rattle.attrs.specs.Packed.{says}
use Rattle.rules.specs.Reading.{Glyph, unit, thing, Op, insert, delete, retain}
use Rattle.rules.specs.Calls.{Sheet, Call, insert_text}
use Rattle.rules.specs.PieceParts.{Attrs, pairs, Said, t, x, r, d, Says, holds, shows, leaves, long, plain, merged, tells, carries, counts, item, range, replays, answer, Piece, piece}
use Rattle.items.specs.Calls.{length_of}
use Rattle.cursors.specs.declared.run.Run.{Run}
use Rattle.demands.specs.Steps.{State, fresh_state, model, does, after, numbers}
use Rattle.demands.specs.Demands.{read_event}
use Rattle.demands.specs.Listing.{all_runs, run_glyphs, visible_of}

-- ---- what calls answer, in the words of the pieces
-- A unit as a number; an embed shows as 0.
abbrev pub letter : Glyph → ℕ
letter (unit v) = v
letter (thing e) = 0

abbrev pub said_run : List Glyph → Run → Said
said_run gs q = cond q.embed (x q.number (pairs keys (says q.attrs))) (t (map letter (run_glyphs gs q)) (pairs keys (says q.attrs)))

abbrev pub said_glyphs : List Glyph → Attrs → Said
said_glyphs [] a = t [] a
said_glyphs (unit v ∷ gs) a = t (map letter (unit v ∷ gs)) a
said_glyphs (thing e ∷ gs) a = x e a

abbrev pub said_op : Op (List Glyph) → Said
said_op (insert gs a) = said_glyphs gs (pairs keys a)
said_op (delete n) = d n
said_op (retain n a) = r n (pairs keys a)

-- Length, runs and event by `len`, `count_runs`, `run_at` and `event`, which is lent w and o; the rest off the list that lies in memory.
abbrev pub answer_by : State → List ℕ → List ℕ → Says → Says
answer_by k w o (long n) = long (length_of k.head k.words k.units).len
answer_by k w o (plain rs) = plain (map (said_run (visible_of k)) (all_runs k false))
answer_by k w o (merged rs) = merged (map (said_run (visible_of k)) (all_runs k true))
answer_by k w o (counts ns) = counts (map (λ (q : Run). q.count) (all_runs k false))
answer_by k w o (tells ops) = tells (map said_op (read_event k w o))
answer_by k w o (holds l) = answer (model k) (holds l)
answer_by k w o (shows l) = answer (model k) (shows l)
answer_by k w o (leaves s) = answer (model k) (leaves s)
answer_by k w o (carries n a) = answer (model k) (carries n a)
answer_by k w o (item j us) = answer (model k) (item j us)
answer_by k w o (range i n us) = answer (model k) (range i n us)
answer_by k w o (replays j vs) = answer (model k) (replays j vs)

-- ---- a piece
-- The state with the text of a piece's start put in.
abbrev pub start_in : List ℕ → List ℕ → Sheet → State
start_in m u s = after (does (insert_text 0 s.units) ∷ []) (fresh_state m u)

-- The state after calls.
abbrev pub after_calls : List Call → State → State
after_calls cs k = after (map does cs) k

-- A piece with what its calls give in memory: the sheet that it starts from, the number of each call, and what is said of the sheet then.
abbrev pub played_in : List ℕ → List ℕ → List ℕ → List ℕ → Piece → Piece
played_in m u w o (piece s cs ns says) =
    piece (model (start_in m u s)) cs (numbers (map does cs) (start_in m u s)) (map (answer_by (after_calls cs (start_in m u s)) w o) says)

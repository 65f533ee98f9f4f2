-- Pieces beyond the bench: one for each turn of a rule that B1 to B14 do not show.
use Rattle.std.specs.Prelude.{List, [], ◌∷◌, replicate}
use Rattle.sets.specs.Sets.{empty}
use Rattle.rules.specs.Sheet.{text, embed, mark, new, kill}
use Rattle.rules.specs.Reading.{insert, delete, retain}
use Rattle.rules.specs.Calls.{fresh_sheet, words, object, insert_text, insert_text_with, insert_embed, insert_embed_with, format_range, remove_range, apply_delta, begin_now}
use Rattle.rules.specs.PieceParts.{t, x, r, d, holds, shows, leaves, long, plain, merged, tells, carries, counts, item, range, replays, Piece, piece, one, two, stood, buried, handed, many_marks, a, b, c, e, X, bold, ab, abc, face, b2, idle}

-- Places, marks, texts, formats.
abbrev pub moving : List Piece
moving =
    -- Place: deleted text uses nothing of an index
    piece abc (remove_range 0 1 ∷ insert_text 1 (X ∷ []) ∷ []) (0 ∷ 0 ∷ [])
    (shows (text 1 1 ∷ text 3 1 ∷ text 2 1 ∷ []) ∷ [])
    ∷  -- Settle passes a mark that the set says too
    piece abc (b2 ∷ insert_text_with 1 (X ∷ []) (one 0 1) ∷ []) (0 ∷ 0 ∷ [])
    (shows (text 0 1 ∷ mark 0 1 ∷ text 3 1 ∷ text 1 1 ∷ mark 0 0 ∷ text 2 1 ∷ []) ∷ [])
    ∷  -- marks are put by ascending key
    piece abc (format_range 1 1 (two 1 2 0 1) ∷ []) (0 ∷ [])
    (shows (text 0 1 ∷ mark 0 1 ∷ mark 1 2 ∷ text 1 1 ∷ mark 0 0 ∷ mark 1 0 ∷ text 2 1 ∷ []) ∷ plain (t (a ∷ []) [] ∷ t (b ∷ []) ((0, 1) ∷ (1, 2) ∷ []) ∷ t (c ∷ []) [] ∷ []) ∷ counts (0 ∷ 2 ∷ 0 ∷ []) ∷ [])
    ∷  -- Close passes a mark that says what is remembered
    piece (handed (stood 0 (mark 0 0) ∷ stood 1 (text 0 1) ∷ []) 2 (a ∷ [])) (insert_text_with 0 (X ∷ []) (one 0 2) ∷ []) (0 ∷ [])
    (holds (new 2 (mark 0 2) ∷ new 3 (text 1 1) ∷ stood 0 (mark 0 0) ∷ stood 1 (text 0 1) ∷ []) ∷ [])
    ∷  -- and stops at a mark of that key with another value
    piece abc (format_range 1 1 (one 0 2) ∷ insert_text_with 1 (X ∷ []) (one 0 1) ∷ []) (0 ∷ 0 ∷ [])
    (shows (text 0 1 ∷ mark 0 1 ∷ text 3 1 ∷ mark 0 0 ∷ mark 0 2 ∷ text 1 1 ∷ mark 0 0 ∷ text 2 1 ∷ []) ∷ [])
    ∷  -- plain text passes what is deleted
    piece abc (remove_range 1 1 ∷ insert_text 1 (X ∷ []) ∷ []) (0 ∷ 0 ∷ [])
    (holds (new 0 (text 0 1) ∷ kill (new 1 (text 1 1)) ∷ new 3 (text 3 1) ∷ new 2 (text 2 1) ∷ []) ∷ [])
    ∷  -- a plain embed does not
    piece abc (remove_range 1 1 ∷ insert_embed 1 7 ∷ []) (0 ∷ 0 ∷ [])
    (holds (new 0 (text 0 1) ∷ new 3 (embed 7) ∷ kill (new 1 (text 1 1)) ∷ new 2 (text 2 1) ∷ []) ∷ [])
    ∷  -- an embed with a set
    piece abc (insert_embed_with 1 7 (one 0 1) ∷ []) (0 ∷ [])
    (shows (text 0 1 ∷ mark 0 1 ∷ embed 7 ∷ mark 0 0 ∷ text 1 2 ∷ []) ∷ plain (t (a ∷ []) [] ∷ x 7 bold ∷ t (b ∷ c ∷ []) [] ∷ []) ∷ [])
    ∷  -- Format goes on over marks while something is remembered
    piece abc (b2 ∷ format_range 0 1 (one 0 1) ∷ []) (0 ∷ 0 ∷ [])
    (holds (new 5 (mark 0 1) ∷ new 0 (text 0 1) ∷ kill (new 2 (mark 0 1)) ∷ new 1 (text 1 1) ∷ new 4 (mark 0 0) ∷ new 3 (text 2 1) ∷ []) ∷ [])
    ∷  -- the last mark deleted is what is remembered
    piece abc (b2 ∷ format_range 2 1 (one 0 2) ∷ format_range 0 2 (one 0 3) ∷ []) (0 ∷ 0 ∷ 0 ∷ [])
    (holds (new 7 (mark 0 3) ∷ new 0 (text 0 1) ∷ kill (new 2 (mark 0 1)) ∷ new 1 (text 1 1) ∷ kill (new 5 (mark 0 2)) ∷ kill (new 4 (mark 0 0)) ∷ new 8 (mark 0 2) ∷ new 3 (text 2 1) ∷ new 6 (mark 0 0) ∷ []) ∷ [])
    ∷  -- Format past the end
    piece abc (format_range 5 1 (one 0 1) ∷ []) (0 ∷ [])
    (shows (text 0 3 ∷ mark 0 1 ∷ mark 0 0 ∷ []) ∷ [])
    ∷  -- Format with the empty set splits at both ends
    piece abc (format_range 1 1 empty ∷ []) (0 ∷ [])
    (shows (text 0 1 ∷ text 1 1 ∷ text 2 1 ∷ []) ∷ [])
    ∷  -- a removal of length 0 does not tidy, by index or in a delta
    piece idle (remove_range 1 0 ∷ apply_delta (retain 1 empty ∷ delete 0 ∷ []) ∷ []) (0 ∷ 0 ∷ [])
    (leaves idle ∷ [])
    ∷  -- a removal ends inside a text
    piece abc (remove_range 1 1 ∷ []) (0 ∷ [])
    (holds (new 0 (text 0 1) ∷ kill (new 1 (text 1 1)) ∷ new 2 (text 2 1) ∷ []) ∷ [])
    ∷  -- Close passes what is deleted between marks
    piece (handed (stood 0 (mark 0 0) ∷ buried 1 (text 0 1) ∷ stood 2 (mark 1 0) ∷ stood 3 (text 1 1) ∷ []) 4 (a ∷ b ∷ [])) (insert_text_with 0 (X ∷ []) (two 0 2 1 2) ∷ []) (0 ∷ [])
    (holds (new 4 (mark 0 2) ∷ new 5 (mark 1 2) ∷ new 6 (text 2 1) ∷ stood 0 (mark 0 0) ∷ buried 1 (text 0 1) ∷ stood 2 (mark 1 0) ∷ stood 3 (text 1 1) ∷ []) ∷ [])
    ∷  -- Format leaves the marks of other keys
    piece abc (b2 ∷ format_range 0 3 (one 1 1) ∷ []) (0 ∷ 0 ∷ [])
    (shows (mark 1 1 ∷ text 0 1 ∷ mark 0 1 ∷ text 1 1 ∷ mark 0 0 ∷ text 2 1 ∷ mark 1 0 ∷ []) ∷ carries 1 ((0, 1) ∷ (1, 1) ∷ []) ∷ [])
    ∷  -- a removal does not count what is deleted
    piece abc (remove_range 1 1 ∷ remove_range 0 2 ∷ []) (0 ∷ 0 ∷ [])
    (holds (kill (new 0 (text 0 1)) ∷ kill (new 1 (text 1 1)) ∷ kill (new 2 (text 2 1)) ∷ []) ∷ long 0 ∷ [])
    ∷  -- the walk of Format at length 0 goes over deleted items too
    piece abc (format_range 2 1 (one 0 1) ∷ remove_range 1 1 ∷ format_range 0 1 (one 0 1) ∷ []) (0 ∷ 0 ∷ 0 ∷ [])
    (shows (mark 0 1 ∷ text 0 1 ∷ text 2 1 ∷ mark 0 0 ∷ []) ∷ [])
    ∷ []

-- Deletions and deltas.
abbrev pub deleting : List Piece
deleting =
    -- Deleted tidies with nothing in force
    piece abc (b2 ∷ apply_delta (retain 1 empty ∷ delete 1 ∷ []) ∷ []) (0 ∷ 0 ∷ [])
    (shows (text 0 1 ∷ text 2 1 ∷ []) ∷ [])
    ∷  -- Tidy ends at a deleted text
    piece abc (format_range 0 2 (one 0 1) ∷ remove_range 1 1 ∷ apply_delta (delete 1 ∷ []) ∷ []) (0 ∷ 0 ∷ 0 ∷ [])
    (shows (mark 0 1 ∷ mark 0 0 ∷ text 2 1 ∷ []) ∷ [])
    ∷  -- null is none for Tidy
    piece fresh_sheet (insert_embed_with 0 1 (one 0 1) ∷ apply_delta (delete 1 ∷ []) ∷ []) (0 ∷ 0 ∷ [])
    (shows [] ∷ [])
    ∷  -- after Deleted the place is where it stopped: not where it began
    piece ab (format_range 0 2 (one 0 1) ∷ apply_delta (delete 1 ∷ insert (words (X ∷ [])) empty ∷ []) ∷ []) (0 ∷ 0 ∷ [])
    (shows (mark 0 1 ∷ mark 0 0 ∷ text 2 1 ∷ mark 0 1 ∷ text 1 1 ∷ mark 0 0 ∷ []) ∷ [])
    ∷  -- nor Tidy's end
    piece ab (format_range 1 1 (one 0 1) ∷ apply_delta (delete 1 ∷ insert (words (X ∷ [])) empty ∷ []) ∷ []) (0 ∷ 0 ∷ [])
    (shows (text 2 1 ∷ mark 0 1 ∷ text 1 1 ∷ mark 0 0 ∷ []) ∷ [])
    ∷  -- what is in force there is read after Tidy
    piece abc (format_range 0 3 (one 0 1) ∷ format_range 1 1 (one 0 0) ∷ apply_delta (retain 1 empty ∷ delete 1 ∷ insert (words (X ∷ [])) empty ∷ []) ∷ []) (0 ∷ 0 ∷ 0 ∷ [])
    (shows (mark 0 1 ∷ text 0 1 ∷ mark 0 0 ∷ text 3 1 ∷ mark 0 1 ∷ text 2 1 ∷ mark 0 0 ∷ []) ∷ [])
    ∷  -- the place is past the marks of Close
    piece abc (apply_delta (retain 0 (one 0 2) ∷ retain 0 (one 2 255) ∷ []) ∷ []) (0 ∷ [])
    (shows (mark 0 2 ∷ mark 0 0 ∷ mark 2 255 ∷ mark 2 0 ∷ text 0 3 ∷ []) ∷ [])
    ∷  -- an empty Inserted does nothing
    piece abc (apply_delta (insert (words []) (one 0 1) ∷ []) ∷ []) (0 ∷ [])
    (leaves abc ∷ [])
    ∷  -- Tidy passes a deleted mark, and leaves it as it is
    piece (handed (stood 0 (mark 0 1) ∷ stood 1 (text 0 1) ∷ buried 2 (mark 0 2) ∷ stood 3 (mark 0 0) ∷ stood 4 (text 1 1) ∷ []) 5 (a ∷ b ∷ [])) (apply_delta (delete 1 ∷ []) ∷ []) (0 ∷ [])
    (holds (kill (stood 0 (mark 0 1)) ∷ kill (stood 1 (text 0 1)) ∷ buried 2 (mark 0 2) ∷ kill (stood 3 (mark 0 0)) ∷ stood 4 (text 1 1) ∷ []) ∷ [])
    ∷  -- an Inserted without a set has no attributes, an embed too
    piece abc (b2 ∷ apply_delta (retain 2 empty ∷ insert (object 7) empty ∷ []) ∷ []) (0 ∷ 0 ∷ [])
    (shows (text 0 1 ∷ mark 0 1 ∷ text 1 1 ∷ mark 0 0 ∷ embed 7 ∷ text 2 1 ∷ []) ∷ [])
    ∷  -- each Inserted has its own units
    piece abc (apply_delta (insert (words (X ∷ e ∷ [])) empty ∷ retain 1 empty ∷ insert (words (e ∷ [])) empty ∷ []) ∷ []) (0 ∷ [])
    (shows (text 3 2 ∷ text 0 1 ∷ text 5 1 ∷ text 1 2 ∷ []) ∷ range 1 4 (e ∷ a ∷ e ∷ b ∷ []) ∷ [])
    ∷ []

-- Refusals.
abbrev pub refusing : List Piece
refusing =
    -- empty text is taken anywhere; 3 before 2, 2 before 1; a removal of length 0 has an index too
    piece face (insert_text 2 [] ∷ insert_text 2 (0xD83D ∷ []) ∷ insert_text 2 (X ∷ []) ∷ remove_range 2 9 ∷ remove_range 2 0 ∷ insert_embed 2 7 ∷ []) (0 ∷ 3 ∷ 2 ∷ 2 ∷ 2 ∷ 2 ∷ [])
    (leaves face ∷ [])
    ∷  -- a delta is refused whole, by its first faulty operation
    piece abc (apply_delta (retain 1 (one 0 1) ∷ delete 9 ∷ []) ∷ apply_delta (delete 9 ∷ insert (words (0xD83D ∷ [])) empty ∷ []) ∷ apply_delta (insert (words (0xD83D ∷ [])) empty ∷ delete 9 ∷ []) ∷ []) (1 ∷ 1 ∷ 3 ∷ [])
    (leaves abc ∷ [])
    ∷  -- the cursor counts in the old text
    piece face (apply_delta (retain 2 empty ∷ []) ∷ apply_delta (insert (words (X ∷ [])) empty ∷ retain 1 empty ∷ delete 2 ∷ []) ∷ []) (2 ∷ 0 ∷ [])
    (shows (text 3 1 ∷ text 0 1 ∷ []) ∷ [])
    ∷  -- 2,048 items fit; a faulty operation comes before 4
    piece (handed (many_marks 2047) 2047 []) (insert_embed 0 7 ∷ insert_embed 0 8 ∷ apply_delta (insert (object 8) empty ∷ delete 9 ∷ []) ∷ apply_delta (insert (object 8) empty ∷ delete 1 ∷ []) ∷ []) (0 ∷ 4 ∷ 1 ∷ 4 ∷ [])
    (long 1 ∷ [])
    ∷  -- 16,384 units fit
    piece (handed (kill (stood 0 (text 0 16383)) ∷ []) 1 (replicate 16383 a)) (insert_text 0 (X ∷ []) ∷ insert_text 0 (X ∷ []) ∷ []) (0 ∷ 4 ∷ [])
    (long 1 ∷ [])
    ∷  -- a Deleted in a delta, by its end and by what is left for it
    piece face (apply_delta (retain 1 empty ∷ delete 1 ∷ []) ∷ apply_delta (retain 1 empty ∷ delete 3 ∷ []) ∷ apply_delta (delete 1 ∷ delete 3 ∷ []) ∷ apply_delta (retain 9 empty ∷ delete 1 ∷ []) ∷ []) (2 ∷ 1 ∷ 1 ∷ 1 ∷ [])
    (leaves face ∷ [])
    ∷ []

-- What is handed out.
abbrev pub showing : List Piece
showing =
    -- an embed is a run by itself; the text of an item, and of a range
    piece abc (insert_embed 1 7 ∷ insert_embed 1 8 ∷ remove_range 3 1 ∷ []) (0 ∷ 0 ∷ 0 ∷ [])
    (plain (t (a ∷ []) [] ∷ x 8 [] ∷ x 7 [] ∷ t (c ∷ []) [] ∷ []) ∷ merged (t (a ∷ []) [] ∷ x 8 [] ∷ x 7 [] ∷ t (c ∷ []) [] ∷ []) ∷ item 0 (a ∷ []) ∷ item 1 (b ∷ []) ∷ item 2 [] ∷ item 9 [] ∷ range 0 9 (a ∷ 0 ∷ 0 ∷ c ∷ []) ∷ [])
    ∷  -- a mark that changes nothing ends a run all the same
    piece (handed (stood 0 (text 0 1) ∷ stood 1 (mark 0 0) ∷ stood 2 (text 1 1) ∷ []) 3 (a ∷ b ∷ [])) [] []
    (plain (t (a ∷ []) [] ∷ t (b ∷ []) [] ∷ []) ∷ merged (t (a ∷ b ∷ []) [] ∷ []) ∷ [])
    ∷  -- an event read over what stood before; its null takes the key away
    piece abc (format_range 0 3 (one 0 1) ∷ begin_now ∷ format_range 1 1 (one 0 0) ∷ []) (0 ∷ 0 ∷ 0 ∷ [])
    (tells (r 1 [] ∷ r 1 ((0, 0) ∷ []) ∷ []) ∷ replays 0 (1 ∷ 0 ∷ 1 ∷ []) ∷ [])
    ∷  -- Begin drops both flags
    piece abc (remove_range 1 1 ∷ begin_now ∷ []) (0 ∷ 0 ∷ [])
    (holds (stood 0 (text 0 1) ∷ buried 1 (text 1 1) ∷ stood 2 (text 2 1) ∷ []) ∷ tells [] ∷ [])
    ∷  -- a new embed is an operation by itself; a deleted one counts one
    piece abc (begin_now ∷ insert_embed 1 7 ∷ insert_text 2 (X ∷ []) ∷ begin_now ∷ insert_embed 1 8 ∷ remove_range 2 2 ∷ []) (0 ∷ 0 ∷ 0 ∷ 0 ∷ 0 ∷ 0 ∷ [])
    (tells (r 1 [] ∷ x 8 [] ∷ d 2 ∷ []) ∷ [])
    ∷  -- a live mark ends an Insert
    piece abc (begin_now ∷ insert_text_with 1 (X ∷ []) (one 0 1) ∷ insert_text 1 (e ∷ []) ∷ []) (0 ∷ 0 ∷ 0 ∷ [])
    (tells (r 1 [] ∷ t (e ∷ []) [] ∷ t (X ∷ []) bold ∷ []) ∷ [])
    ∷  -- a Retain may set what the unit has
    piece abc (b2 ∷ format_range 2 1 (one 0 2) ∷ begin_now ∷ apply_delta (retain 1 empty ∷ delete 1 ∷ []) ∷ []) (0 ∷ 0 ∷ 0 ∷ 0 ∷ [])
    (tells (r 1 [] ∷ d 1 ∷ r 1 ((0, 2) ∷ []) ∷ []) ∷ [])
    ∷  -- a null mark that is new ends a Retain
    piece (handed (stood 0 (text 0 1) ∷ new 3 (mark 0 0) ∷ stood 1 (text 1 1) ∷ kill (stood 2 (text 2 1)) ∷ []) 4 (a ∷ b ∷ c ∷ [])) [] []
    (tells (r 1 [] ∷ r 1 [] ∷ d 1 ∷ []) ∷ [])
    ∷  -- a mark that stays does not end a Retain
    piece abc (b2 ∷ begin_now ∷ remove_range 2 1 ∷ []) (0 ∷ 0 ∷ 0 ∷ [])
    (tells (r 2 [] ∷ d 1 ∷ []) ∷ [])
    ∷  -- nor a Delete
    piece abc (b2 ∷ begin_now ∷ remove_range 1 2 ∷ []) (0 ∷ 0 ∷ 0 ∷ [])
    (tells (r 1 [] ∷ d 2 ∷ []) ∷ replays 0 (0 ∷ []) ∷ [])
    ∷  -- an Insert goes on over texts; an embed stands by itself
    piece abc (begin_now ∷ insert_text 1 (X ∷ []) ∷ insert_text 2 (e ∷ []) ∷ insert_embed 3 7 ∷ insert_text 4 (X ∷ []) ∷ []) (0 ∷ 0 ∷ 0 ∷ 0 ∷ 0 ∷ [])
    (tells (r 1 [] ∷ t (X ∷ e ∷ []) [] ∷ x 7 [] ∷ t (X ∷ []) [] ∷ []) ∷ [])
    ∷  -- an embed that stays is passed; one put and removed is not told
    piece abc (insert_embed 1 7 ∷ begin_now ∷ insert_embed 1 8 ∷ remove_range 1 1 ∷ remove_range 2 1 ∷ []) (0 ∷ 0 ∷ 0 ∷ 0 ∷ 0 ∷ [])
    (tells (r 2 [] ∷ d 1 ∷ []) ∷ [])
    ∷  -- a deleted mark that says what is in force now changes nothing
    piece abc (b2 ∷ begin_now ∷ format_range 0 1 (one 0 1) ∷ []) (0 ∷ 0 ∷ 0 ∷ [])
    (tells (r 2 bold ∷ []) ∷ replays 0 (1 ∷ 1 ∷ 0 ∷ []) ∷ [])
    ∷  -- an Insert has what is in force, not what is pending
    piece abc (format_range 0 3 (one 0 1) ∷ begin_now ∷ insert_text 1 (X ∷ []) ∷ []) (0 ∷ 0 ∷ 0 ∷ [])
    (tells (r 1 [] ∷ t (X ∷ []) bold ∷ []) ∷ replays 0 (1 ∷ 1 ∷ 1 ∷ 1 ∷ []) ∷ [])
    ∷ []

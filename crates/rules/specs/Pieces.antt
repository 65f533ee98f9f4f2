-- The bench pieces, as one list, and one statement over it.
use Rattle.std.specs.Prelude.{◌≡◌, refl, List, [], ◌∷◌, ◌++◌, map}
use Rattle.sets.specs.Sets.{empty, keys}
use Rattle.rules.specs.Sheet.{text, mark, new, kill}
use Rattle.rules.specs.Reading.{delete, retain}
use Rattle.rules.specs.Calls.{fresh_sheet, insert_text, insert_text_with, format_range, remove_range, apply_delta, begin_now}
use Rattle.rules.specs.PieceParts.{t, r, holds, shows, leaves, long, plain, merged, tells, carries, counts, Piece, piece, played, one, sheet_of, a, b, c, e, X, bold, abc, face, b2}
use Rattle.rules.specs.Turns.{moving, deleting, refusing, showing}
pub use Rattle.rules.specs.PieceParts.{after}

-- B1 to B11, B13, B14: what docs/RULES.md says of each, and no more.
abbrev pub starred : List Piece
starred =
    -- B1: a fresh sheet
    piece fresh_sheet [] []
    (long 0 ∷ plain [] ∷ merged [] ∷ tells [] ∷ [])
    ∷  -- the start of most pieces: plain text put into a fresh sheet
    piece fresh_sheet (insert_text 0 (a ∷ b ∷ c ∷ []) ∷ []) (0 ∷ [])
    (leaves abc ∷ [])
    ∷  -- B2: a 0, 0=1 2, b 1, 0=null 4, c 3
    piece abc (b2 ∷ []) (0 ∷ [])
    (holds (new 0 (text 0 1) ∷ new 2 (mark 0 1) ∷ new 1 (text 1 1) ∷ new 4 (mark 0 0) ∷ new 3 (text 2 1) ∷ []) ∷ plain (t (a ∷ []) [] ∷ t (b ∷ []) bold ∷ t (c ∷ []) [] ∷ []) ∷ merged (t (a ∷ []) [] ∷ t (b ∷ []) bold ∷ t (c ∷ []) [] ∷ []) ∷ counts (0 ∷ 1 ∷ 0 ∷ []) ∷ [])
    ∷  -- B3: plain text takes what is in force left of it
    piece abc (b2 ∷ insert_text 2 (X ∷ []) ∷ []) (0 ∷ 0 ∷ [])
    (shows (text 0 1 ∷ mark 0 1 ∷ text 1 1 ∷ text 3 1 ∷ mark 0 0 ∷ text 2 1 ∷ []) ∷ carries 2 bold ∷ [])
    ∷  -- B3: and not what stands right of it
    piece abc (b2 ∷ insert_text 1 (X ∷ []) ∷ []) (0 ∷ 0 ∷ [])
    (shows (text 0 1 ∷ text 3 1 ∷ mark 0 1 ∷ text 1 1 ∷ mark 0 0 ∷ text 2 1 ∷ []) ∷ carries 1 [] ∷ [])
    ∷  -- B4: text with the empty set
    piece abc (b2 ∷ insert_text_with 2 (X ∷ []) empty ∷ []) (0 ∷ 0 ∷ [])
    (shows (text 0 1 ∷ mark 0 1 ∷ text 1 1 ∷ mark 0 0 ∷ text 3 1 ∷ text 2 1 ∷ []) ∷ [])
    ∷  -- B5: nothing in force at the place, so no tidying
    piece abc (b2 ∷ remove_range 1 1 ∷ []) (0 ∷ 0 ∷ [])
    (holds (new 0 (text 0 1) ∷ new 2 (mark 0 1) ∷ kill (new 1 (text 1 1)) ∷ new 4 (mark 0 0) ∷ new 3 (text 2 1) ∷ []) ∷ long 2 ∷ plain (t (a ∷ []) [] ∷ t (c ∷ []) [] ∷ []) ∷ merged (t (a ∷ c ∷ []) [] ∷ []) ∷ [])
    ∷  -- B6: something in force there, so tidied
    piece abc (format_range 0 3 (one 0 1) ∷ format_range 1 1 (one 0 0) ∷ remove_range 1 1 ∷ []) (0 ∷ 0 ∷ 0 ∷ [])
    (holds (new 1 (mark 0 1) ∷ new 0 (text 0 1) ∷ kill (new 4 (mark 0 0)) ∷ kill (new 3 (text 1 1)) ∷ kill (new 6 (mark 0 1)) ∷ new 5 (text 2 1) ∷ new 2 (mark 0 0) ∷ []) ∷ plain (t (a ∷ c ∷ []) bold ∷ []) ∷ [])
    ∷  -- B7: a format of length 0
    piece abc (format_range 1 0 (one 0 1) ∷ []) (0 ∷ [])
    (shows (text 0 1 ∷ mark 0 1 ∷ mark 0 0 ∷ text 1 2 ∷ []) ∷ plain (t (a ∷ []) [] ∷ t (b ∷ c ∷ []) [] ∷ []) ∷ merged (t (a ∷ b ∷ c ∷ []) [] ∷ []) ∷ [])
    ∷  -- B8: a pair is not cut
    piece face (format_range 1 1 (one 0 1) ∷ format_range 2 0 (one 0 1) ∷ []) (2 ∷ 2 ∷ [])
    (leaves face ∷ [])
    ∷  -- B8: an end past the text cuts nothing
    piece face (format_range 1 9 (one 0 1) ∷ []) (0 ∷ [])
    (shows (text 0 1 ∷ mark 0 1 ∷ text 1 2 ∷ mark 0 0 ∷ []) ∷ carries 1 bold ∷ carries 2 bold ∷ [])
    ∷  -- B9: too long, and nothing changed
    piece abc (remove_range 1 3 ∷ []) (1 ∷ [])
    (leaves abc ∷ [])
    ∷  -- B9: nothing removed past the end
    piece abc (remove_range 5 0 ∷ []) (0 ∷ [])
    (leaves abc ∷ [])
    ∷  -- B10: at the end, left of the closing mark
    piece abc (format_range 0 3 (one 0 1) ∷ insert_text 3 (e ∷ []) ∷ []) (0 ∷ 0 ∷ [])
    (shows (mark 0 1 ∷ text 0 3 ∷ text 3 1 ∷ mark 0 0 ∷ []) ∷ carries 3 bold ∷ [])
    ∷  -- B10: past the end, right of it
    piece abc (format_range 0 3 (one 0 1) ∷ insert_text 4 (e ∷ []) ∷ []) (0 ∷ 0 ∷ [])
    (shows (mark 0 1 ∷ text 0 3 ∷ mark 0 0 ∷ text 3 1 ∷ []) ∷ carries 3 [] ∷ [])
    ∷  -- B11: two deletions in a row
    piece (sheet_of (a ∷ b ∷ c ∷ e ∷ []) 4) (format_range 2 2 (one 0 1) ∷ apply_delta (retain 1 empty ∷ delete 1 ∷ delete 1 ∷ []) ∷ []) (0 ∷ 0 ∷ [])
    (holds (new 0 (text 0 1) ∷ kill (new 4 (text 1 1)) ∷ new 2 (mark 0 1) ∷ kill (new 1 (text 2 1)) ∷ new 5 (text 3 1) ∷ new 3 (mark 0 0) ∷ []) ∷ plain (t (a ∷ []) [] ∷ t (e ∷ []) bold ∷ []) ∷ [])
    ∷  -- B13: a format, as an event
    piece abc (begin_now ∷ b2 ∷ []) (0 ∷ 0 ∷ [])
    (tells (r 1 [] ∷ r 1 bold ∷ []) ∷ [])
    ∷  -- B14: put and removed in one transaction
    piece abc (begin_now ∷ insert_text 1 (X ∷ []) ∷ remove_range 1 1 ∷ []) (0 ∷ 0 ∷ 0 ∷ [])
    (tells [] ∷ [])
    ∷ []

abbrev pub pieces : List Piece
pieces = starred ++ moving ++ deleting ++ refusing ++ showing

pub bench : map played pieces ≡ pieces
unfolding keys
bench = refl

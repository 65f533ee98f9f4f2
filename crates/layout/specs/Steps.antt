-- The items that the links of a buffer lead to, each with its number.
use Rattle.std.specs.Prelude.{ℕ, zero, suc, cond, List, [], ◌∷◌, length, get_or, ltb}
use Rattle.rules.specs.Sheet.{Item as Listed}
use Rattle.layout.specs.declared.word.Item.{Item}
use Rattle.layout.specs.declared.list.Items.{Items}
use Rattle.layout.specs.Word.{what_of, unpack_of}
use Rattle.layout.specs.Chain.{next_at}

-- f steps from s at most: the end of the buffer ends it.
unfoldable pub steps : ℕ → List ℕ → ℕ → List (ℕ × Item)
steps zero m s = []
steps (suc f) m s = cond (ltb s (length m)) ((s, unpack_of (get_or m s 0)) ∷ steps f m (next_at m s)) []

-- What an iterator has left.
abbrev pub rest : Items → List (ℕ × Item)
rest i = steps i.todo i.items.now i.at

-- An item and its number, as the rules have it.
abbrev pub as_listed : ℕ × Item → Listed
as_listed p =
    record { num = p.0; what = what_of p.1.content; flags = record { dead = p.1.dead; added = p.1.added; gone = p.1.gone } }

-- What is carried by value, in lent numbers.
use Rattle.std.specs.Prelude.{ℕ, List, get_or}
use Rattle.attrs.specs.declared.Attrs.{Attrs}
use Rattle.layout.specs.declared.head.Head.{Head}
use Rattle.layout.specs.Memory.{Carried}
use Rattle.table.specs.declared.TableHead.{TableHead}
use Rattle.table.specs.Ask.{Asked}

-- A sheet's head in three numbers: the first item, and how many items and units are in use.
abbrev pub head_of : List ℕ → Head
head_of w = record { first = get_or w 0 0; items = get_or w 1 0; units = get_or w 2 0 }

-- A table's head in two: how many names and values there are.
abbrev pub table_head_of : List ℕ → TableHead
table_head_of w = record { names = get_or w 0 0; values = get_or w 1 0 }

-- A set from its key mask and its sixteen values.
abbrev pub set_of : ℕ → List ℕ → Attrs
set_of m v = record { mask = m; values = v }

-- What a call leaves: the refusal that it answers, the head's numbers, and both buffers.
abbrev pub left : ℕ → List ℕ → List ℕ → List ℕ → Carried
left r w m u = record { refusal = r; head = head_of w; words = m; units = u }

-- What an asking answers: the refusal, the number asked for, and the head's numbers.
abbrev pub asked_in : ℕ → ℕ → List ℕ → Asked
asked_in r n w = record { refusal = r; number = n; head = table_head_of w }

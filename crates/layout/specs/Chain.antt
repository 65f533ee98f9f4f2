-- The list that the links of a buffer give.
use Rattle.std.specs.Prelude.{ℕ, zero, suc, ◌/◌, ◌%◌, Bool, false, cond, List, [], ◌∷◌, get_or, eqb, ltb}
use Rattle.rules.specs.Sheet.{Item}
use Rattle.layout.specs.Word.{what_of, content_from}

-- The link that ends a list: above every place of a buffer.
abbrev pub END : ℕ
END = 4095

-- The item of number n whose word without its link is q.
abbrev pub item_from : ℕ → ℕ → Item
item_from n q =
    record {
      num = n;
      what = what_of (content_from (q % 4) (q / 32 % 4294967296));
      flags = record { dead = eqb (q / 4 % 2) 1; added = eqb (q / 8 % 2) 1; gone = eqb (q / 16 % 2) 1 };
    }

abbrev pub item_at : List ℕ → ℕ → Item
item_at m n = item_from n (get_or m n 0 / 4096)

abbrev pub next_at : List ℕ → ℕ → ℕ
next_at m n = get_or m n 0 % 4096

-- The items of f steps from s. It has no test for the end: that the walk ends is soundness's business.
unfoldable pub chain : ℕ → List ℕ → ℕ → List Item
chain zero m s = []
chain (suc f) m s = item_at m s ∷ chain f m (next_at m s)

-- f steps from s meet only numbers below b, and then comes the end.
unfoldable pub walks : ℕ → ℕ → List ℕ → ℕ → Bool
walks b zero m s = eqb s END
walks b (suc f) m s = cond (ltb s b) (walks b f m (next_at m s)) false

-- The numbers beside a place: the first of what follows, the last of what precedes.
unfoldable pub head_or : List Item → ℕ
head_or [] = END
head_or (i ∷ l) = i.num

unfoldable pub last_or : ℕ → List Item → ℕ
last_or d [] = d
last_or d (i ∷ l) = last_or i.num l

-- A change of the item of number n; any other stays.
unfoldable pub edit_at : ℕ → (Item → Item) → Item → Item
edit_at n g i = cond (eqb i.num n) (g i) i

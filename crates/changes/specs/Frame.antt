-- A step in a working copy, and back.
use Rattle.std.specs.Prelude.{ℕ, ◌<◌, ◌≤◌, ◌≡◌, true, cond, List, leb, length, get_or, Result}
use Rattle.std.specs.Result.{result_unwrap_or}
use Rattle.refusal.specs.declared.Refusal.{Refusal}
use Rattle.refusal.specs.Numbers.{refusal_in}
use Rattle.rules.specs.Places.{At, whole}
use Rattle.layout.specs.declared.head.Head.{Head}
use Rattle.layout.specs.Chain.{walks, head_or}
use Rattle.layout.specs.Heads.{grown_head}
use Rattle.layout.specs.Memory.{stored, list_of}
use Rattle.arena.specs.Places.{Neat, Arena}

-- What an edit leaves of the head and of the items' words.
pub record Left : Type 0 where
  pub refusal : ℕ
  pub head : Head
  pub words : List ℕ

abbrev pub left : Head → Result Head Refusal → List ℕ → Left
left h r m = record { refusal = refusal_in r; head = result_unwrap_or r h; words = m }

-- The list that the rules give, stored where it keeps the limit, with so many units in use; else 4, and all as it was.
unfoldable pub granted : At → ℕ → Head → List ℕ → Left
granted p used h m =
    cond (leb (length (whole p)) 2048)
    (record { refusal = 0; head = grown_head h (head_or (whole p)) p.next used; words = stored (whole p) m })
    (record { refusal = 4; head = h; words = m })

-- The words of a sound sheet, as far as its items go.
pub record Loadable (h : Head) (m : List ℕ) : Type 0 where
  pub words : length m ≡ 2048
  pub items : h.items ≤ 2048
  pub walk : walks h.items h.items m h.first ≡ true
  pub neat : (n : ℕ) → n < h.items → Neat (get_or m n 0)

-- A working copy that holds what the rules give.
pub record Worked (p : At) (h : Head) (m : List ℕ) : Type 0 where
  pub arena : Arena h m
  pub list : list_of h m ≡ whole p
  pub next : h.items ≡ p.next

-- A working copy in which a step went as far as it fits: all of what the rules give, or more than 2,048 items, and then
-- what the rules give is too long as well.
pub record Tried (p : At) (h : Head) (m : List ℕ) : Type 0 where
  pub fits : h.items ≤ 2048 → Worked p h m
  pub long : 2048 < h.items → 2048 < length (whole p)

-- A working copy that holds the sheet.
pub record CopyOf (h : Head) (m k : List ℕ) : Type 0 where
  pub arena : Arena h k
  pub list : list_of h k ≡ list_of h m

-- What holds at every such copy.
abbrev pub AtEach : Head → List ℕ → (List ℕ → Type 0) → Type 0
AtEach h m P = (k : List ℕ) → CopyOf h m k → P k

-- A step leads to a place of the rules: whatever it may leave of such a copy is what the rules give there, as far as it fits.
abbrev pub Leads : Head → List ℕ → (List ℕ → Head → List ℕ → Type 0) → At → Type 0
Leads h m leaves p = AtEach h m (λ k. (new : Head) (k' : List ℕ) → leaves k new k' → Tried p new k')

-- What the calls that read, and begin, answer.
use Rattle.std.specs.Prelude.{ℕ, zero, suc, false, cond, List, [], get_or, set, take, drop, ltb, Result}
use Rattle.std.specs.Result.{result_unwrap_or}
use Rattle.refusal.specs.declared.Refusal.{Refusal}
use Rattle.refusal.specs.Numbers.{refusal_in}
use Rattle.rules.specs.Sheet.{What, text, embed, mark}
use Rattle.rules.specs.Reading.{visible}
use Rattle.layout.specs.declared.head.Head.{Head}
use Rattle.layout.specs.Word.{unpack_of, pack_of}
use Rattle.layout.specs.Chain.{item_at}
use Rattle.layout.specs.Memory.{list_of, sound_of}

-- The word with both flags of the transaction dropped.
abbrev pub rest_word : ℕ → ℕ
rest_word w = pack_of (record { next = (unpack_of w).next; content = (unpack_of w).content; dead = (unpack_of w).dead; added = false; gone = false })

-- The words below n changed by e.
unfoldable pub sweep_to : (ℕ → ℕ) → ℕ → List ℕ → List ℕ
sweep_to e zero m = m
sweep_to e (suc i) m = set (sweep_to e i m) i (e (get_or m i 0))

-- What is answered of the length: the refusal's number, 0 for none, and how long; 0 beside a refusal.
pub record Length : Type 0 where
  pub refusal : ℕ
  pub len : ℕ

abbrev pub told : Result ℕ Refusal → Length
told r = record { refusal = refusal_in r; len = result_unwrap_or r 0 }

-- The visible length; 0 beside a refusal.
unfoldable pub length_of : Head → List ℕ → List ℕ → Length
length_of h m u = cond (sound_of h m u) (record { refusal = 0; len = visible (list_of h m) }) (record { refusal = 9; len = 0 })

-- The part of the units that an item holds.
abbrev pub piece_of : List ℕ → What → List ℕ
piece_of u (text s n) = take n (drop s u)
piece_of u (embed e) = []
piece_of u (mark k v) = []

-- The text of item n: empty where the sheet is not sound, no item has the number, or the item is no text.
unfoldable pub text_of : Head → List ℕ → List ℕ → ℕ → List ℕ
text_of h m u n = cond (sound_of h m u) (cond (ltb n h.items) (piece_of u (item_at m n).what) []) []

-- Operations by value: what they say to the rules, and a delta that grows.
use Rattle.std.specs.Prelude.{ℕ, ◌+◌, cond, List, map, ltb, take, drop, set, replicate, Result}
use Rattle.std.specs.Result.{result_unwrap_or}
use Rattle.refusal.specs.declared.Refusal.{Refusal}
use Rattle.refusal.specs.Numbers.{refusal_in}
use Rattle.sets.specs.Sets.{Set, empty}
use Rattle.attrs.specs.Packed.{says, packed}
use Rattle.rules.specs.Calls.{Body, words, object}
use Rattle.rules.specs.Reading as rules
use Rattle.ops.specs.declared.delta.Inserted.{Inserted}
use Rattle.ops.specs.declared.delta.Inserted.TheVariants.{Text, Embed}
use Rattle.ops.specs.declared.delta.Op.{Op}
use Rattle.ops.specs.declared.delta.Op.TheVariants.{Insert, Delete, Retain}
use Rattle.ops.specs.declared.delta.DeltaOp.{DeltaOp}
use Rattle.ops.specs.declared.delta.Delta.{Delta}

-- What an Inserted holds, with its text's units.
abbrev pub body_of : List ℕ → Inserted → Body
body_of us (Text s n) = words (take n (drop s us))
body_of us (Embed e) = object e

-- The operation that the rules see: its text is a part of the lent units, its set what the attributes say.
abbrev pub op_for : List ℕ → Set → Op → rules.Op Body
op_for us a (Insert i) = rules.insert (body_of us i) a
op_for us a (Delete n) = rules.delete n
op_for us a (Retain n) = rules.retain n a

unfoldable pub op_of : List ℕ → DeltaOp → rules.Op Body
op_of us d = op_for us (says d.attrs) d.op

-- The operations of a delta.
unfoldable pub ops_of : List ℕ → Delta → List (rules.Op Body)
ops_of us d = map (op_of us) (take d.count d.ops)

-- What stands where no operation was put.
abbrev pub no_op : DeltaOp
no_op = record { op = Retain 0; attrs = packed empty }

unfoldable pub empty_delta : Delta
empty_delta = record { count = 0; ops = replicate 256 no_op }

-- What a push answers: the refusal's number, 0 for none, and the delta after it.
pub record Pushed : Type 0 where
  pub refusal : ℕ
  pub delta : Delta

-- Its answer so read: a refused one leaves the delta as it was.
abbrev pub took : Delta → Result Delta Refusal → Pushed
took d r = record { refusal = refusal_in r; delta = result_unwrap_or r d }

-- A delta with one operation more. Refusal 7 (MANY), exactly when there are 256 already.
unfoldable pub pushed : Delta → DeltaOp → Pushed
pushed d o =
    cond (ltb d.count 256)
    (record { refusal = 0; delta = record { count = d.count + 1; ops = set d.ops d.count o } })
    (record { refusal = 7; delta = d })

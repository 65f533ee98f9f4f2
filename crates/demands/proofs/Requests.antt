-- Whatever the public calls are handed, in their types, is a step that the theorems take. Assumes nothing.
use Prim.Native.Nat.{ℕ}
use Rattle.std.proofs.Common.{rules}
use mathlib.Core.Bool.{true}
use mathlib.Core.List.{List, [], ◌∷◌, map}
use lib.ListN.{length}
use mathlib.Core.Path.{◌≡◌}
use Rattle.sets.specs.Sets.{Set}
use Rattle.attrs.specs.Packed.{says}
use Rattle.rules.specs.Reading as rules
use Rattle.rules.specs.Calls.{Body}
use Rattle.rules.specs.Rulings.{Byte, FineSet, FineOps, FineCall, Edit}
use Rattle.laws.proofs.Transaction.{Edits}
use Rattle.ops.specs.declared.delta.Op.{Op}
use Rattle.ops.specs.declared.delta.DeltaOp.{DeltaOp}
use Rattle.ops.specs.declared.delta.Delta.{Delta}
use Rattle.ops.specs.Ops.{op_for, op_of, ops_of}
use Rattle.layout.specs.declared.head.Head.{Head}
use Rattle.sheet.proofs.Theorems.{says_fine}
use Rattle.deltas.specs.Checks.{many_of}
use Rattle.deltas.specs.Call.{short_scratch, carry_delta}
use Rattle.demands.specs.Steps.{State, sound, Step, does, turned, answered, after, begun, calls_of}
use Rattle.demands.specs.Requests.{Request, insert, insert_with_attributes, embed, embed_with_attributes, format, remove, delta, step_of, TypedOp, TypedOps, Typed, AllTyped}
use Rattle.demands.specs.Demands.{Replays}
use Rattle.demands.proofs.Bridge.{delta-step}
use Rattle.demands.proofs.Transaction.{begin-to-event}

op_fine : (us : List ℕ) (a : Set) (o : Op) → TypedOp o → FineSet Byte a → (rest : List (rules.Op Body)) → FineOps rest → FineOps (op_for us a o ∷ rest)
op_fine us a o t f rest g = grind rules

ops_fine : (us : List ℕ) (ds : List DeltaOp) → TypedOps ds → FineOps (map (op_of us) ds)
unfolding op_of
ops_fine us [] t = tt
ops_fine us (d ∷ ds) t = op_fine us (says d.attrs) d.op t.0 (says_fine d.attrs t.1) (map (op_of us) ds) (ops_fine us ds t.2)

-- a step that is an edit, and fine
abbrev FineEdit : Step → Type 0
FineEdit (does c) = Edit c × FineCall c
FineEdit (turned n) = Unit {0}

request_fine : (r : Request) → Typed r → FineEdit (step_of r)
unfolding ops_of
request_fine (insert i us) t = (tt, tt)
request_fine (insert_with_attributes i us a) t = (tt, says_fine a t)
request_fine (embed i e) t = (tt, t)
request_fine (embed_with_attributes i e a) t = (tt, (t.0, says_fine a t.1))
request_fine (format i n a) t = (tt, says_fine a t)
request_fine (remove i n) t = (tt, tt)
request_fine (delta sm su us d) t = grind (rules, ops_fine)

edits-on : (t : Step) (ts : List Step) → FineEdit t → Edits (calls_of ts) → Edits (calls_of (t ∷ ts))
edits-on t ts f d = grind rules

pub requests-edit : (rs : List Request) → AllTyped rs → Edits (calls_of (map step_of rs))
requests-edit [] t = tt
requests-edit (r ∷ rs) t = edits-on (step_of r) (map step_of rs) (request_fine r t.0) (requests-edit rs t.1)

-- What `apply_delta` promises to leave is what its step leaves.
pub delta-is : (sm su : ℕ) (us : List ℕ) (d : Delta) (h : Head) (m u : List ℕ) → carry_delta sm su us d h m u ≡ answered (step_of (delta sm su us d)) (record { head = h; words = m; units = u })
unfolding carry_delta
delta-is sm su us d h m u = delta-step (many_of (length us) d) (short_scratch sm su) (ops_of us d) h m u

-- The third demand, for any sequence of public calls.
pub transaction-told : (s : State) → sound s ≡ true → (rs : List Request) → AllTyped rs → (w o : List ℕ) → Replays s (after (map step_of rs) (begun s)) w o
transaction-told s ok rs t w o = begin-to-event s ok (map step_of rs) (requests-edit rs t) w o

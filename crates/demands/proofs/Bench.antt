-- The starred bench pieces hold in memory, from a fresh head and whatever lies in the buffers. Assumes nothing.
use Prim.Native.Nat.{ℕ, ◌≤◌, ◌<◌}
use native.Mathlib.Omega.{arith}
use Rattle.std.proofs.Common.{rules}
use mathlib.Core.Path.{◌≡◌, refl, ap, ap₂, subst⁻¹, ◌∙◌}
use mathlib.Core.Bool.{true}
use mathlib.Core.List.{List, [], ◌∷◌, ◌++◌, map, map_congr_left}
use lib.ListN.{length}
use Rattle.sets.specs.Sets.{empty, keys}
use Rattle.rules.specs.Calls.{Sheet, fresh_sheet, Call, insert_text, call}
use Rattle.rules.specs.Rulings.{Byte, FineSet}
use Rattle.rules.specs.PieceParts.{answer, Piece, piece, after as ruled_after, refusals, played, one}
use Rattle.rules.specs.Turns.{moving, deleting, refusing, showing}
use Rattle.rules.specs.Pieces.{starred, bench}
use Rattle.laws.proofs.Calls.{fresh-sound}
use Rattle.laws.proofs.Transaction.{FineCalls}
use Rattle.layout.specs.Chain.{head_or}
use Rattle.layout.specs.Heads.{fresh_head}
use Rattle.layout.specs.Memory.{stored}
use Rattle.layout.proofs.Soundness.{sound-whole}
use Rattle.layout.proofs.Models.{stored-sound, stored-model}
use Rattle.demands.specs.Steps.{Step, after, fresh_state, sound, model, does, numbers, calls_of}
use Rattle.demands.specs.Bench.{answer_by, start_in, after_calls, played_in}
use Rattle.demands.proofs.Bridge.{after-sound, after-model, numbers-ruled}
use Rattle.demands.proofs.Said.{asked}

-- ---- a fresh sheet
module _ (m u : List ℕ) (words : length m ≡ 2048) (room : length u ≡ 16384) where
  pub fresh-lies : sound (fresh_state m u) ≡ true
  unfolding stored head_or
  fresh-lies = sound-whole fresh_head m u (stored-sound fresh_sheet fresh_head m u fresh-sound words room)

  pub fresh-model : model (fresh_state m u) ≡ fresh_sheet
  unfolding stored head_or
  fresh-model = stored-model fresh_sheet fresh_head m u fresh-sound words room

-- Every sheet that calls make of it is sound.
pub made-lies : (m u : List ℕ) → length m ≡ 2048 → length u ≡ 16384 → (ts : List Step) → FineCalls (calls_of ts) → sound (after ts (fresh_state m u)) ≡ true
made-lies m u words room ts d = after-sound ts d (fresh_state m u) (fresh-lies m u words room)

-- ---- one piece
calls_same : (cs : List Call) → calls_of (map does cs) ≡ cs
calls_same [] = refl
calls_same (c ∷ cs) = grind (rules, calls_same cs)

-- its start is its text put into a fresh sheet, and its calls can be handed in
abbrev Ready : Piece → Type 0
Ready (piece s cs ns says) = ((call (insert_text 0 s.units) fresh_sheet).sheet ≡ s) × FineCalls cs

abbrev AllReady : List Piece → Type 0
AllReady [] = Unit {0}
AllReady (p ∷ ps) = Ready p × AllReady ps

module _ (m u w o : List ℕ) (words : length m ≡ 2048) (room : length u ≡ 16384) (lw : 16384 ≤ length w) (lo : 16384 ≤ length o) where
  played-same : (p : Piece) → Ready p → played_in m u w o p ≡ played p
  played-same (piece s cs ns says) r =
      let fresh = fresh-lies m u words room in
      let k = start_in m u s in
      let ok : sound k ≡ true = after-sound (does (insert_text 0 s.units) ∷ []) (tt, tt) (fresh_state m u) fresh in
      let made = after-model (does (insert_text 0 s.units) ∷ []) (tt, tt) (fresh_state m u) fresh in
      let start : model k ≡ s = made ∙ ap (λ (x : Sheet). (call (insert_text 0 s.units) x).sheet) (fresh-model m u words room) ∙ r.0 in
      let nums : numbers (map does cs) k ≡ refusals cs s = numbers-ruled cs r.1 k ok ∙ ap (refusals cs) start in
      let fine : FineCalls (calls_of (map does cs)) = subst⁻¹ FineCalls (calls_same cs) r.1 in
      let end : model (after_calls cs k) ≡ ruled_after cs s = after-model (map does cs) fine k ok ∙ ap₂ ruled_after (calls_same cs) start in
      ap₂ (λ (x : Sheet) (y : List ℕ). piece x cs y (map (answer_by (after_calls cs k) w o) says)) start nums
      ∙ ap (piece s cs (refusals cs s)) (map_congr_left {f = answer_by (after_calls cs k) w o} {g = answer (model (after_calls cs k))} {l = says} (λ q i. asked (after_calls cs k) (after-sound (map does cs) fine k ok) w o lw lo q))
      ∙ ap (λ (x : Sheet). piece s cs (refusals cs s) (map (answer x) says)) end

  all_same : (ps : List Piece) → AllReady ps → map (played_in m u w o) ps ≡ map played ps
  all_same [] r = refl
  all_same (p ∷ ps) r = grind (rules, played-same, all_same ps)

-- ---- the list
one_fine : (k v : ℕ) → v < 256 → FineSet Byte (one k v)
one_fine k v h j w e = grind (rules, arith)

empty_fine : FineSet Byte empty
empty_fine k v e = cc

bold_fine : FineSet Byte (one 0 1)
bold_fine = one_fine 0 1 (omega arith)

plain_fine : FineSet Byte (one 0 0)
plain_fine = one_fine 0 0 (omega arith)

starred_ready : AllReady starred
unfolding keys
starred_ready = search (rules, bold_fine, plain_fine, empty_fine)

front : (f : Piece → Piece) (a b : List Piece) → map f (a ++ b) ≡ a ++ b → map f a ≡ a
front f [] b e = refl
front f (p ∷ a) b e = grind (rules, front f a b)

starred-played : map played starred ≡ starred
starred-played =
    front played starred moving (front played (starred ++ moving) deleting (front played (starred ++ moving ++ deleting) refusing (front played (starred ++ moving ++ deleting ++ refusing) showing bench)))

-- m and u are the sheet's buffers, w and o are lent to `event`.
pub bench_in_memory : (m u w o : List ℕ) → length m ≡ 2048 → length u ≡ 16384 → 16384 ≤ length w → 16384 ≤ length o → map (played_in m u w o) starred ≡ starred
bench_in_memory m u w o words room lw lo = all_same m u w o words room lw lo starred starred_ready ∙ starred-played

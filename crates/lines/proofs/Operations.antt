-- The walk over the operations of a delta.
use mathlib.Core.Path.{◌≡◌, ◌∙◌}
use mathlib.Core.List.{List}
use Prim.Native.Nat.{ℕ, ◌+◌, ◌≤◌, ◌<◌}
use native.Mathlib.Omega.{arith}
use lib.ListN.{length}
use Rattle.words.specs.Words.{word_at}
use Rattle.lines.specs.Fields.{at_op}
use Rattle.lines.specs.Deltas.{op_in, goes_on, next_op, all_ops, ReadTo}
use Rattle.lines.proofs.Walks.{Turned, turned-stop, turned-done, turned-step}
use mathlib.Core.Bool.{true, false}
use Rattle.lines.specs.declared.deltas.AskedDelta.{AskedDelta}

-- Behind i operations.
pub record Ordering (s : List ℕ) (d₀ : AskedDelta) (u₀ : List ℕ) (d : AskedDelta) (u : List ℕ) (i : ℕ) : Type 0 where
  pub walk : Turned goes_on (next_op s) (length s + 1) (record { asked = d₀; units = u₀ }) (record { asked = d; units = u }) i
  pub within : d.at ≤ length s
  pub high : d.count ≤ length u₀
  pub long : length u ≡ length u₀

module _ {s : List ℕ} {d₀ : AskedDelta} {u₀ : List ℕ} {d : AskedDelta} {u : List ℕ} {i : ℕ} (w : Ordering s d₀ u₀ d u i) where
  ended : record { asked = d; units = u } ≡ all_ops (length s + 1) s d₀ u₀ → ReadTo s u₀ u d (all_ops (length s + 1) s d₀ u₀)
  ended e = record { is = e; within = w.within; high = w.high; long = w.long }

  pub ordering-stop : at_op d.end ≡ false → ReadTo s u₀ u d (all_ops (length s + 1) s d₀ u₀)
  ordering-stop h = ended (turned-stop w.walk h)

  pub ordering-done : length s < i → ReadTo s u₀ u d (all_ops (length s + 1) s d₀ u₀)
  ordering-done h = ended (turned-done w.walk (omega arith))

  pub ordering-step : {r : AskedDelta} {u' : List ℕ} → i ≤ length s → at_op d.end ≡ true → ReadTo s u u' r (op_in s d (word_at s d.at) u) → Ordering s d₀ u₀ r u' (i + 1)
  ordering-step {r} {u'} l h t =
      record {
        walk = turned-step w.walk (omega arith) h t.is;
        within = t.within;
        high = rw (← w.long) t.high;
        long = t.long ∙ w.long;
      }

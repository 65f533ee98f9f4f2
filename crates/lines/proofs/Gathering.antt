-- The walk over the words of a line.
use mathlib.Core.Path.{◌≡◌, ap, ap₂, ◌∙◌}
use mathlib.Core.Bool.{Bool, true, false}
use mathlib.Core.List.{List}
use Prim.Native.Nat.{ℕ, ◌+◌, ◌≤◌, ◌<◌}
use native.Mathlib.Omega.{arith}
use lib.ListN.{length}
use Rattle.lines.specs.Fields.{ReadIs, more, with_field, with_units, Takes, gathers_on, one_field, gather, Gathered, Gathers}
use Rattle.lines.proofs.Walks.{Turned, turned-stop, turned-done, turned-step}
use Rattle.lines.specs.declared.fields.Read.{Read}
use Rattle.lines.specs.declared.fields.Fields.{Fields}

-- Behind i words.
pub record Gathering (s : List ℕ) (marks : Bool) (f₀ : Fields) (u₀ : List ℕ) (f : Fields) (u : List ℕ) (i : ℕ) : Type 0 where
  pub walk : Turned gathers_on (one_field s marks) (length s + 1) (record { fields = f₀; units = u₀ }) (record { fields = f; units = u }) i
  pub at : f.at ≤ length s
  pub low : f₀.count ≤ f.count
  pub high : f₀.count ≤ length u₀ → f.count ≤ length u₀
  pub long : length u ≡ length u₀

module _ {s : List ℕ} {marks : Bool} {f₀ : Fields} {u₀ : List ℕ} {f : Fields} {u : List ℕ} {i : ℕ} (w : Gathering s marks f₀ u₀ f u i) where
  ended : record { fields = f; units = u } ≡ gather (length s + 1) s marks f₀ u₀ → Gathers s f₀ marks u₀ u f
  ended e = record { is = e; at = w.at; low = w.low; high = w.high; long = w.long }

  pub gathering-stop : more f.end ≡ false → Gathers s f₀ marks u₀ u f
  gathering-stop h = ended (turned-stop w.walk h)

  pub gathering-done : length s < i → Gathers s f₀ marks u₀ u f
  gathering-done h = ended (turned-done w.walk (omega arith))

  pub gathering-step : {r : Read} {g : Fields} {u' : List ℕ} → i ≤ length s → more f.end ≡ true → ReadIs s f.at r → Takes f r marks u u' g → Gathering s marks f₀ u₀ g u' (i + 1)
  gathering-step {r} {g} {u'} l h e t =
      let one : record { fields = g; units = u' } ≡ one_field s marks (record { fields = f; units = u }) =
      ap₂ {C = Gathered} (λ (x : Fields) (y : List ℕ). record { fields = x; units = y }) t.is t.units
      ∙ ap (λ (x : Read). record { fields = with_field f x.next marks (length u) x.field; units = with_units u f.count x.field }) e.is in
      record {
        walk = turned-step w.walk (omega arith) h one;
        at = rw t.at e.high;
        low = omega (arith, t.low, w.low);
        high = λ x. rw (← w.long) (t.high (rw w.long (w.high x)));
        long = t.long ∙ w.long;
      }

-- A walk by turns, of which there are at most n: what the turns that are left make of it is what all make.
use mathlib.Core.Path.{◌≡◌, refl, sym, ◌∙◌}
use mathlib.Core.Bool.{Bool, true, false}
use Prim.Native.Nat.{ℕ, zero, suc, ◌+◌, ◌-◌, ◌≤◌, ◌<◌}
use native.Mathlib.Omega.{arith}
use Rattle.lines.specs.Fields.{turns}

pub record Turned {A : Type 0} (p : A → Bool) (f : A → A) (n : ℕ) (first now : A) (i : ℕ) : Type 0 where
  pub within : i ≤ n
  pub rest : turns (n - i) p f now ≡ turns n p f first

module _ {A : Type 0} {p : A → Bool} {f : A → A} {n : ℕ} {first now : A} {i : ℕ} (w : Turned p f n first now i) where
  pub turned-stop : p now ≡ false → now ≡ turns n p f first
  unfolding turns
  turned-stop h = go (n - i) ∙ w.rest
    where
      go : (k : ℕ) → now ≡ turns k p f now
      go zero = refl
      go (suc k) = rw h

  pub turned-done : n ≤ i → now ≡ turns n p f first
  unfolding turns
  turned-done h = go (n - i) (omega arith) ∙ w.rest
    where
      go : (k : ℕ) → k ≡ 0 → now ≡ turns k p f now
      go zero e = refl
      go (suc k) e = absurd (omega arith)

  pub turned-step : {next : A} → i < n → p now ≡ true → next ≡ f now → Turned p f n first next (i + 1)
  unfolding turns
  turned-step {next} l h e = record { within = omega arith; rest = sym (go (n - i) (n - (i + 1)) (omega arith)) ∙ w.rest }
    where
      go : (k j : ℕ) → k ≡ j + 1 → turns k p f now ≡ turns j p f next
      go zero j d = absurd (omega arith)
      go (suc k) j d = let s : k ≡ j = omega arith in rw (h, s, e)

-- Insertions: what the rules ask for, and the units behind those in use. Assumes nothing.
use Prim.Native.Nat.{ℕ, ◌+◌, ◌<◌, ◌≤◌}
use native.Mathlib.Omega.{arith}
use mathlib.Core.Path.{◌≡◌, refl, ap, ◌∙◌}
use mathlib.Core.Bool.{true, cond, not}
use mathlib.Core.List.{List, [], ◌∷◌, ◌++◌}
use lib.ListN.{length, take, length-append}
use Rattle.units.specs.Surrogates.{paired, splits_pair}
use Rattle.std.specs.Prelude.{Option, Some, None}
use Rattle.attrs.specs.declared.Attrs.{Attrs}
use Rattle.rules.specs.Edits.{by_index}
use Rattle.rules.specs.Calls.{Sheet}
use Rattle.rules.specs.Rulings.{Ruling, seen, as_is, ruling}
use Rattle.layout.specs.declared.head.Head.{Head}
use Rattle.layout.specs.Memory.{list_of, model_of, sound_of}
use Rattle.layout.proofs.Soundness.{sound-parts}
use Rattle.layout.proofs.Models.{used-length}
use Rattle.changes.specs.Changes.{move_of, Ready}
use Rattle.sheet.specs.Inserts.{text_call, embed_call, text_change, embed_change}

-- ---- embeds
abbrev pub embed_ruled : ℕ → ℕ → Option Attrs → Sheet → Ruling
embed_ruled i e a s = record { fault = cond (splits_pair (seen s) i) 2 0; place = by_index i (move_of (embed_change e a)) s.items s.next; units = s.units }

pub embed-ruled : (i e : ℕ) (a : Option Attrs) (s : Sheet) → ruling (embed_call i e a) s ≡ embed_ruled i e a s
unfolding move_of
embed-ruled i e None s = refl
embed-ruled i e (Some a) s = refl

pub embed_ready : (e : ℕ) (a : Option Attrs) → e < 4294967296 → Ready (embed_change e a)
embed_ready e None h = h
embed_ready e (Some a) h = h

-- ---- text
abbrev pub text_ruled : ℕ → List ℕ → Option Attrs → Head → List ℕ → List ℕ → Ruling
text_ruled i us a h m u =
    record {
      fault = cond (not (paired us)) 3 (cond (splits_pair (seen (model_of h m u)) i) 2 0);
      place = by_index i (move_of (text_change h.units (length us) a)) (list_of h m) h.items;
      units = take h.units u ++ us;
    }

module _ (i : ℕ) (us : List ℕ) (a : Option Attrs) (h : Head) (m u : List ℕ) (ok : sound_of h m u ≡ true) where
  used-is : length (take h.units u) ≡ h.units
  used-is = used-length h m u (sound-parts h m u ok)

  pub text-ruled : 0 < length us → ruling (text_call i us a) (model_of h m u) ≡ text_ruled i us a h m u
  unfolding move_of
  text-ruled some = go us a some ∙ ap (λ (n : ℕ). record { fault = (text_ruled i us a h m u).fault; place = by_index i (move_of (text_change n (length us) a)) (list_of h m) h.items; units = take h.units u ++ us }) used-is
    where
      go : (us : List ℕ) (a : Option Attrs) → 0 < length us → ruling (text_call i us a) (model_of h m u) ≡ record {
        fault = (text_ruled i us a h m u).fault;
        place = by_index i (move_of (text_change (length (take h.units u)) (length us) a)) (list_of h m) h.items;
        units = take h.units u ++ us;
      }
      go [] a some = absurd (omega arith)
      go (x ∷ us) None some = refl
      go (x ∷ us) (Some a) some = refl

  pub text-long : length (take h.units u ++ us) ≡ h.units + length us
  text-long = length-append (take h.units u) us ∙ ap (λ (n : ℕ). n + length us) used-is

pub text_quiet : (i : ℕ) (us : List ℕ) (a : Option Attrs) (s : Sheet) → length us ≡ 0 → ruling (text_call i us a) s ≡ as_is s
text_quiet i [] None s h = refl
text_quiet i [] (Some a) s h = refl
text_quiet i (x ∷ us) a s h = absurd (omega arith)

pub text_ready : (s n : ℕ) (a : Option Attrs) → 0 < n → s + n ≤ 16384 → Ready (text_change s n a)
text_ready s n None some few = (some, few)
text_ready s n (Some a) some few = (some, few)

-- What is in force, as a set by value. Assumes nothing.
use Prim.Native.Nat.{ℕ, ◌<◌}
use mathlib.Core.Path.{◌≡◌, refl, sym, ap, ap₂, ◌∙◌}
use mathlib.Core.Bool.{Bool, true, false}
use lib.Dec.{eqb}
use lib.ListN.{length}
use borrow.Author.Tests.{eqb-true}
use Rattle.attrs.specs.declared.Attrs.{Attrs}
use Rattle.sets.specs.Sets.{Set, Env, none, empty, keys, non_null, as_set, same_sets, same_force, present}
use Rattle.attrs.specs.Packed.{Took, says, env_of, packed, update_at}
use Rattle.sets.proofs.Keys.{every, every-at}
use Rattle.attrs.proofs.Says.{says-packed, packed_ext}
use Rattle.attrs.proofs.Slots.{env-past}
use Rattle.attrs.proofs.Tests.{same-packed, same-force}
use Rattle.attrs.proofs.Force.{within_keyed, env_update, env-packed, update-packed}
use Rattle.rules.specs.Sheet.{What, text, embed, mark, Item}
use Rattle.rules.specs.Reading.{live, pass_key}
use Rattle.rules.specs.Sound.{Fits}
use Rattle.layout.specs.Force.{mark_on}
use Rattle.cursors.specs.Cursors.{passed_by, Plain}

-- nothing is in force at the start
pub env-none : env_of (packed empty) ≡ none
env-none = env-packed none (λ k l. refl)

pub plain-none : Plain (packed empty)
plain-none = sym (ap (λ (e : Env). packed (as_set e)) env-none)

-- ---- an item is passed

module _ (a : Attrs) (used : ℕ) where
  plain-update : (k v : ℕ) → k < 16 → v < 256 → Plain a → Plain (update_at a k v).attrs
  plain-update k v l h p =
      ap (λ (b : Attrs). (update_at b k v).attrs) p
      ∙ ap (λ (t : Took). t.attrs) (update-packed (env_of a) k v l h)
      ∙ ap (λ (e : Env). packed (as_set e)) (sym (env_update a k v l h))

  pub plain-passed : (d : Bool) (w : What) → Fits used w → Plain a → Plain (passed_by a d w)
  unfolding passed_by mark_on
  plain-passed true w f p = p
  plain-passed false (text s n) f p = p
  plain-passed false (embed x) f p = p
  plain-passed false (mark k v) f p = plain-update k v f.0 f.1 p

  -- what is then in force is what the rules say
  pub env-passed : (i : Item) → Fits used i.what → env_of (passed_by a i.flags.dead i.what) ≡ (λ k. pass_key live k i (env_of a k))
  unfolding passed_by mark_on
  env-passed i f = go i.flags.dead i.what f
    where
      go : (d : Bool) (w : What) → Fits used w
          → env_of (passed_by a d w)
          ≡ (λ k. pass_key live k (record { num = i.num; what = w; flags = record { dead = d; added = i.flags.added; gone = i.flags.gone } }) (env_of a k))
      go true w f = refl
      go false (text s n) f = refl
      go false (embed x) f = refl
      go false (mark k v) f = env_update a k v f.0 f.1

-- ---- two sets in force

module _ (a b : Attrs) (p : Plain a) (q : Plain b) where
  pub same-plain : same_sets keys (says a) (says b) ≡ same_force keys (env_of a) (env_of b)
  same-plain =
      ap₂ (λ (x y : Attrs). same_sets keys (says x) (says y)) p q
      ∙ same-packed (as_set (env_of a)) (as_set (env_of b))
      ∙ same-force (env_of a) (env_of b)

  pub same-is : same_force keys (env_of a) (env_of b) ≡ true → a ≡ b
  unfolding keys every
  same-is h =
      p
      ∙ packed_ext (as_set (env_of a)) (as_set (env_of b)) (λ k l.
      ap non_null (eqb-true (env_of a k) (env_of b k) (every-at 16 (λ k. eqb (env_of a k) (env_of b k)) h k l)))
      ∙ sym q

-- how many keys
pub says_plain : (a : Attrs) → Plain a → says a ≡ as_set (env_of a)
says_plain a p =
    ap says p ∙ says-packed (as_set (env_of a)) ∙ within_keyed (as_set (env_of a)) (λ k g. ap non_null (env-past a k g))

pub count-plain : (a : Attrs) → Plain a → length (present keys (says a)) ≡ length (present keys (as_set (env_of a)))
count-plain a p = ap (λ (s : Set). length (present keys s)) (says_plain a p)

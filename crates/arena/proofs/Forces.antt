-- What is in force behind an item, as the code keeps it. Assumes nothing.
use Prim.Native.Nat.{ℕ, zero, suc, ◌-◌, ◌<◌, ◌≤◌}
use native.Mathlib.Omega.{arith}
use mathlib.Core.Path.{◌≡◌, refl, sym, ap, ◌∙◌}
use mathlib.Core.Bool.{Bool, true, false, cond}
use mathlib.Core.List.{List, [], ◌∷◌, ◌++◌}
use lib.ListN.{get_or, take}
use borrow.Author.Tests.{ne_eqb}
use Rattle.sets.specs.Sets.{Env, none, as_set}
use Rattle.attrs.specs.Packed.{Took, packed, env_of}
use Rattle.attrs.proofs.Force.{update-packed, env-packed}
use Rattle.rules.specs.Sheet.{Item}
use Rattle.rules.specs.Reading.{live, set_key, pass_key, force}
use Rattle.rules.specs.Places.{after}
use Rattle.layout.specs.declared.head.Head.{Head}
use Rattle.layout.specs.declared.word.Content.{Content}
use Rattle.layout.specs.declared.word.Content.TheVariants.{Text, Embed, Mark}
use Rattle.layout.specs.Word.{what_of, unpack_of}
use Rattle.layout.specs.Force.{mark_on}
use Rattle.layout.specs.Chain.{item_at, next_at, chain, walks}
use Rattle.layout.proofs.Links.{walks_parts}
use Rattle.arena.specs.declared.Place.{Place}
use Rattle.arena.specs.Places.{InRange, Neat, left_of, in_force, Standing, passed_force}
use Rattle.arena.proofs.Carried.{after-append}

-- an item by its parts
abbrev pub item_of : ℕ → Content → Bool → Bool → Bool → Item
item_of n c d a g = record { num = n; what = what_of c; flags = record { dead = d; added = a; gone = g } }

one-past : (e : Env) (n : ℕ) (c : Content) (d a g : Bool) → InRange c → passed_force (packed (as_set e)) d c ≡ packed (as_set (after e (item_of n c d a g ∷ [])))
unfolding passed_force mark_on
one-past e n c true a g t = refl
one-past e n (Text s l) false a g t = refl
one-past e n (Embed x) false a g t = refl
one-past e n (Mark k v) false a g t = ap (λ (x : Took). x.attrs) (update-packed e k v t.0 t.1)

pub force-past : (L : List Item) (n : ℕ) (c : Content) (d a g : Bool) → InRange c → passed_force (in_force L) d c ≡ in_force (L ++ item_of n c d a g ∷ [])
unfolding in_force
force-past L n c d a g t =
    one-past (after none L) n c d a g t ∙ ap (λ (e : Env). packed (as_set e)) (sym (after-append none L (item_of n c d a g ∷ [])))

pub force-none : packed (as_set none) ≡ in_force []
unfolding in_force
force-none = refl

-- ---- no key over 15 is in force
past-high : (k v : ℕ) (m : List ℕ) (s : ℕ) → 16 ≤ k → InRange (unpack_of (get_or m s 0)).content → pass_key live k (item_at m s) v ≡ v
past-high k v m s h t = go (live (item_at m s).flags) (unpack_of (get_or m s 0)).content t
  where
    go : (b : Bool) (c : Content) → InRange c → cond b (set_key k (what_of c) v) v ≡ v
    go false c t = refl
    go true (Text u l) t = refl
    go true (Embed x) t = refl
    go true (Mark j x) t = rw (ne_eqb k j (omega arith))

pub high : (b f i : ℕ) (m : List ℕ) (s k v : ℕ) → 16 ≤ k → ((n : ℕ) → n < b → Neat (get_or m n 0)) → walks b f m s ≡ true → force live k v (take i (chain f m s)) ≡ v
unfolding chain
high b f zero m s k v h t p = refl
high b zero (suc i) m s k v h t p = refl
high b (suc f) (suc i) m s k v h t p =
    let q = walks_parts b f m s p in
    high b f i m (next_at m s) k (pass_key live k (item_at m s) v) h t q.1 ∙ past-high k v m s h (t s q.0).range

-- what a place's set puts in force is what is in force there
pub force_env : {h : Head} {m : List ℕ} {p : Place} → Standing h m p → env_of p.force ≡ after none (left_of h m p)
unfolding in_force
force_env {h} {m} {p} s =
    let L = left_of h m p in
    ap env_of s.force ∙ env-packed (after none L) (λ k g. high h.items h.items (h.items - p.todo) m h.first k 0 g s.arena.neat s.arena.walk)

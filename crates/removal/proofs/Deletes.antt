-- The turns of the deletion's walk. Assumes nothing.
use Prim.Native.Nat.{ℕ, zero, suc, ◌-◌, ◌<◌, ◌≤◌}
use native.Mathlib.Omega.{arith}
use mathlib.Core.Path.{◌≡◌, refl, ap, subst⁻¹, ◌∙◌}
use mathlib.Core.Bool.{Bool, true, false, cond, ◌||◌}
use mathlib.Core.List.{List, [], ◌∷◌}
use lib.Dec.{leb, ltb}
use lib.ListN.{get_or}
use borrow.Author.Tests.{le-leb, lt-leb, lt-ltb}
use Rattle.sets.specs.Sets.{Env}
use Rattle.rules.specs.Sheet.{What, text, embed, mark, Item, dead, like, kill, width, is_mark}
use Rattle.rules.specs.Places.{At, Move, stay, over, after, left_half, right_half, uses}
use Rattle.rules.specs.Edits.{kill_units}
use Rattle.layout.specs.declared.head.Head.{Head}
use Rattle.layout.specs.declared.word.Content.{Content}
use Rattle.layout.specs.declared.word.Content.TheVariants.{Text, Embed, Mark}
use Rattle.layout.specs.Word.{what_of, unpack_of}
use Rattle.layout.specs.Chain.{item_at}
use Rattle.arena.specs.declared.Place.{Place}
use Rattle.arena.specs.Places.{InRange, right_of, Carried, Going, forward_of, staying, halving}
use Rattle.arena.specs.Writes.{kill_mem}
use Rattle.arena.proofs.Carried.{carried-then}
use Rattle.arena.proofs.Standing.{neat-here}
use Rattle.arena.proofs.Steps.{kill-carried, forward-carried, cut-more}
use Rattle.arena.proofs.Walks.{going-same, going_end, going-ahead, going-kill, going-by, going-stopped}
use Rattle.removal.specs.Tidies.{deleting}

-- ---- the rule, by its cases
kill-none : (n m : ℕ) → kill_units n [] m ≡ stay [] m
kill-none zero m = refl
kill-none (suc n) m = refl

kill-zero : (l : List Item) (m : ℕ) → kill_units 0 l m ≡ stay l m
kill-zero [] m = refl
kill-zero (i ∷ l) m = refl

-- a text or embed has units
wide : (c : Content) → InRange c → is_mark (what_of c) ≡ false → 0 < width (what_of c)
wide (Text s l) t e = t.0
wide (Embed n) t e = omega arith
wide (Mark k v) t e = absurd (let z : ◌≡◌ {A = ℕ} 0 1 = cc in omega arith)

kill-past : (n : ℕ) (i : Item) (l : List Item) (m : ℕ) → (n ≡ 0 → ⊥) → (is_mark i.what ≡ false → 0 < width i.what) → uses i ≤ n
    → kill_units n (i ∷ l) m ≡ over (cond (ltb 0 (uses i)) (kill i) i) (kill_units (n - uses i) l m)
kill-past zero i l m z a h = absurd (z refl)
kill-past (suc n) i l m z a h = go (dead i) i.what _ a h
  where
    go : (d : Bool) (w : What) (c : At) → (is_mark w ≡ false → 0 < width w) → cond d 0 (width w) ≤ suc n
        → cond (d || is_mark w) (over i (kill_units (suc n) l m)) (cond (leb (width w) (suc n)) (over (kill i) (kill_units (suc n - width w) l m)) c)
        ≡ over (cond (ltb 0 (cond d 0 (width w))) (kill i) i) (kill_units (suc n - cond d 0 (width w)) l m)
    go true w c a h = let e : suc n - 0 ≡ suc n = omega arith in rw e
    go false (text s k) c a h = rw (le-leb k (suc n) h, lt-ltb 0 k (a refl))
    go false (embed x) c a h = rw (le-leb 1 (suc n) h)
    go false (mark k v) c a h = let e : suc n - 0 ≡ suc n = omega arith in rw e

kill-inside : (n : ℕ) (i : Item) (l : List Item) (m : ℕ) → (n ≡ 0 → ⊥) → n < uses i
    → kill_units n (i ∷ l) m ≡ over (kill (like i i.num (left_half n i.what))) (stay (like i m (right_half n i.what) ∷ l) (suc m))
kill-inside zero i l m z h = absurd (z refl)
kill-inside (suc n) i l m z h = go (dead i) i.what _ _ _ h
  where
    go : (d : Bool) (w : What) (a b c : At) → suc n < cond d 0 (width w) → cond (d || is_mark w) a (cond (leb (width w) (suc n)) b c) ≡ c
    go true w a b c h = absurd (omega arith)
    go false (text s k) a b c h = rw (lt-leb k (suc n) h)
    go false (embed x) a b c h = absurd (omega arith)
    go false (mark k v) a b c h = absurd (omega arith)

-- ---- an item deleted or not, and passed
module _ {f : Move} {h : Head} {m : List ℕ} {p : Place} {g : Move} {h₁ : Head} {m₁ : List ℕ} {p₁ : Place} (o : Going f h m p g h₁ m₁ p₁) (more : 0 < p₁.todo) where
  pub going-if : (b : Bool) (k : List ℕ) → k ≡ cond b (kill_mem m₁ p₁.right) m₁ → (q : Place) → q ≡ forward_of k p₁ → (g₂ : Move)
      → ((e e₂ : Env) (l : List Item) (n : ℕ) → g e (item_at m₁ p₁.right ∷ l) n ≡ over (cond b (kill (item_at m₁ p₁.right)) (item_at m₁ p₁.right)) (g₂ e₂ l n))
      → Going f h m p g₂ h₁ k q
  going-if true k ek q eq g₂ s = going-kill o more k ek q eq g₂ (λ e l n. s e e l n)
  going-if false k ek q eq g₂ s =
      let x = item_at m₁ p₁.right in
      let on = going-ahead o more q (eq ∙ ap (λ (j : List ℕ). forward_of j p₁) ek) g₂ (λ e l n. s e (after e (x ∷ [])) l n) in
      subst⁻¹ (λ (j : List ℕ). Going f h m p g₂ h₁ j q) ek on

-- ---- the turns
module _ {f : Move} {h : Head} {m : List ℕ} {p : Place} {r : ℕ} {h₁ : Head} {m₁ : List ℕ} {p₁ : Place} (o : Going f h m p (deleting r) h₁ m₁ p₁) where
  pub deleted-all : r ≡ 0 → Carried f h m p h₁ m₁ p₁
  deleted-all z = going-stopped (going-same o staying (ap (λ (n : ℕ). kill_units n (right_of h₁ m₁ p₁) h₁.items) z ∙ kill-zero (right_of h₁ m₁ p₁) h₁.items))

  pub deleted-end : p₁.todo ≤ 0 → Carried f h m p h₁ m₁ p₁
  deleted-end z = going-stopped (going_end o z staying (λ e n. kill-none r n))

  module _ (more : 0 < p₁.todo) (some : r ≡ 0 → ⊥) where
    pub deleted-past : uses (item_at m₁ p₁.right) ≤ r → (k : List ℕ) → k ≡ cond (ltb 0 (uses (item_at m₁ p₁.right))) (kill_mem m₁ p₁.right) m₁ → (q : Place) → q ≡ forward_of k p₁
        → Going f h m p (deleting (r - uses (item_at m₁ p₁.right))) h₁ k q
    deleted-past u k ek q eq =
        let x = item_at m₁ p₁.right in
        let a = wide (unpack_of (get_or m₁ p₁.right 0)).content (neat-here o.stands more).range in
        going-if o more (ltb 0 (uses x)) k ek q eq (deleting (r - uses x)) (λ e e₂ l n. kill-past r x l n some a u)

    pub deleted-cut : r < uses (item_at m₁ p₁.right) → {h₂ : Head} {m₂ : List ℕ} {p₂ : Place} → Carried (halving r) h₁ m₁ p₁ h₂ m₂ p₂
        → (k : List ℕ) → k ≡ kill_mem m₂ p₂.right → (q : Place) → q ≡ forward_of k p₂ → Carried f h m p h₂ k q
    deleted-cut u c k ek q eq =
        let x = item_at m₁ p₁.right in
        let two = (cut-more o.stands more c).0 in
        let d = kill-carried c.stands two k ek in
        let a = forward-carried d.stands two q eq in
        going-stopped (going-by o more (carried-then (carried-then c d) a) staying (λ e l n. kill-inside r x l n some u))

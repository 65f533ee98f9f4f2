-- What every edit does to a list, step by step: it adds new items, deletes live ones, splits texts; and nothing else.
-- So what survives each of these steps survives every edit: here the reading before, and the count of numbers.
use Prim.Native.Nat.{ℕ, suc, ◌+◌, ◌-◌, ◌≤◌, ◌<◌}
use mathlib.Core.Path.{◌≡◌, refl, sym, ap, ◌∙◌}
use mathlib.Core.Bool.{Bool, true, false, cond, not, ◌||◌, true≢false}
use mathlib.Core.List.{List, [], ◌∷◌, ◌++◌, append_assoc}
use native.Mathlib.Omega.{arith}
use lib.ListN.{length}
use Rattle.sets.specs.Sets.{keys}
use Rattle.rules.specs.Sheet.{What, text, embed, mark, Flags, Item, dead, new, kill, begin}
use Rattle.rules.specs.Reading.{live, before, units_of, glyphs, Cell, paint, cells, set_key, pass_key, shown}
use Rattle.rules.specs.Counts.{AllBelow}
use Rattle.laws.proofs.Lists.{In}
use Rattle.laws.proofs.Places.{item, cut_cells}

-- what may be put besides marks: an embed, or a text whose units are the next ones, and how many units are used then
pub data Fresh (N : What → Type 0) : What → ℕ → ℕ → Type 0 where
  embeds : {u : ℕ} (x : ℕ) → N (embed x) → Fresh N (embed x) u u
  texts : {u : ℕ} (n : ℕ) → 0 < n → N (text u n) → Fresh N (text u n) u (u + n)

-- From a list, its next number and its used units to another; P is what the value of each mark has, C where in the units a text may be cut, N what a new text or embed has.
pub data Grown (P C : ℕ → Type 0) (N : What → Type 0) : List Item → ℕ → ℕ → List Item → ℕ → ℕ → Type 0 where
  same : {l : List Item} {m u : ℕ} → Grown P C N l m u l m u
  then : {l l' l'' : List Item} {m m' m'' u u' u'' : ℕ} → Grown P C N l m u l' m' u' → Grown P C N l' m' u' l'' m'' u'' → Grown P C N l m u l'' m'' u''
  under : {i : Item} {l l' : List Item} {m m' u u' : ℕ} → Grown P C N l m u l' m' u' → Grown P C N (i ∷ l) m u (i ∷ l') m' u'
  marked : {l : List Item} {m u : ℕ} (k v : ℕ) → In k keys → P v → Grown P C N l m u (new m (mark k v) ∷ l) (suc m) u
  adds : {l : List Item} {m u u' : ℕ} {w : What} → Fresh N w u u' → Grown P C N l m u (new m w ∷ l) (suc m) u'
  kills : {l : List Item} {m u : ℕ} (i : Item) → dead i ≡ false → Grown P C N (i ∷ l) m u (kill i ∷ l) m u
  halves : {l : List Item} {m u : ℕ} (k s w : ℕ) (f : Flags) (n : ℕ) → 0 < n → n < w → C (s + n)
      → Grown P C N (record { num = k; what = text s w; flags = f } ∷ l) m u (record { num = k; what = text s n; flags = f } ∷ record { num = m; what = text (s + n) (w - n); flags = f } ∷ l) (suc m) u

-- What follows for every edit. The reading `before` stays, whatever is in force left of the list.
abbrev Stays : ℕ → List Item → List Item → Type 0
Stays j l l' = (v : ℕ) → cells before j v l' ≡ cells before j v l

kill-stays : (j k : ℕ) (w : What) (d x g : Bool) (l : List Item) → d ≡ false → Stays j (item k w d x g ∷ l) (kill (item k w d x g) ∷ l)
kill-stays j k w true x g l h v = absurd (true≢false h)
kill-stays j k w false x g l h v = refl

halves-stay : (j k m s w : ℕ) (f : Flags) (n : ℕ) (l : List Item) → n ≤ w
    → Stays j (record { num = k; what = text s w; flags = f } ∷ l) (record { num = k; what = text s n; flags = f } ∷ record { num = m; what = text (s + n) (w - n); flags = f } ∷ l)
halves-stay j k m s w f n l h v = go (before f)
  where
    go : (b : Bool) → cond b (paint v (units_of s n)) [] ++ (cond b (paint (cond b v v) (units_of (s + n) (w - n))) [] ++ cells before j (cond b (cond b v v) (cond b v v)) l) ≡ cond b (paint v (units_of s w)) [] ++ cells before j (cond b v v) l
    go true = sym (append_assoc (paint v (units_of s n)) (paint v (units_of (s + n) (w - n))) (cells before j v l)) ∙ ap (λ (x : List Cell). x ++ cells before j v l) (sym (cut_cells v s n w h))
    go false = refl

pub grown-stays : (j : ℕ) {P C : ℕ → Type 0} {N : What → Type 0} {l l' : List Item} {m m' u u' : ℕ} → Grown P C N l m u l' m' u' → (v : ℕ) → cells before j v l' ≡ cells before j v l
grown-stays j same v = refl
grown-stays j (then g h) v = grown-stays j h v ∙ grown-stays j g v
grown-stays j (under {i = i} g) v = ap (λ (x : List Cell). shown before i v ++ x) (grown-stays j g (pass_key before j i v))
grown-stays j (marked k w i p) v = refl
grown-stays j (adds f) v = refl
grown-stays j (kills {l = l} i h) v = kill-stays j i.num i.what i.flags.dead i.flags.added i.flags.gone l h v
grown-stays j (halves {l = l} {m = m} k s w f n h h' c) v = halves-stay j k m s w f n l (omega arith) v

-- an edit makes as many items as it takes numbers
pub grown-count : {P C : ℕ → Type 0} {N : What → Type 0} {l l' : List Item} {m m' u u' : ℕ} → Grown P C N l m u l' m' u' → length l' + m ≡ length l + m'
grown-count same = refl
grown-count (then g h) = omega (arith, grown-count g, grown-count h)
grown-count (under g) = omega (arith, grown-count g)
grown-count (marked k v i p) = omega arith
grown-count (adds f) = omega arith
grown-count (kills i h) = refl
grown-count (halves k s w f n h h' c) = omega arith

-- the number never falls
pub grown-next : {P C : ℕ → Type 0} {N : What → Type 0} {l l' : List Item} {m m' u u' : ℕ} → Grown P C N l m u l' m' u' → m ≤ m'
grown-next same = omega arith
grown-next (then g h) = omega (arith, grown-next g, grown-next h)
grown-next (under g) = grown-next g
grown-next (marked k v i p) = omega arith
grown-next (adds f) = omega arith
grown-next (kills i h) = omega arith
grown-next (halves k s w f n h h' c) = omega arith

-- numbers stay below the next one
below_on : (l : List Item) (m m' : ℕ) → m ≤ m' → AllBelow m l → AllBelow m' l
below_on [] m m' h b = tt
below_on (i ∷ l) m m' h b = (omega (arith, b.0), below_on l m m' h b.1)

pub grown-below : {P C : ℕ → Type 0} {N : What → Type 0} {l l' : List Item} {m m' u u' : ℕ} → Grown P C N l m u l' m' u' → AllBelow m l → AllBelow m' l'
grown-below same b = b
grown-below (then g h) b = grown-below h (grown-below g b)
grown-below (under g) b = (omega (arith, b.0, grown-next g), grown-below g b.1)
grown-below (marked {l = l} {m = m} k v i p) b = (omega arith, below_on l m (suc m) (omega arith) b)
grown-below (adds {l = l} {m = m} f) b = (omega arith, below_on l m (suc m) (omega arith) b)
grown-below (kills i h) b = b
grown-below (halves {l = l} {m = m} k s w f n h h' c) b = (omega (arith, b.0), (omega arith, below_on l m (suc m) (omega arith) b.1))

-- Begin: before = now
pub begin-before : (j v : ℕ) (l : List Item) → cells before j v (begin l) ≡ cells live j v l
begin-before j v [] = refl
begin-before j v (i ∷ l) = go i.flags.dead (λ v. begin-before j v l)
  where
    go : (d : Bool) → ((v : ℕ) → cells before j v (begin l) ≡ cells live j v l)
        → cond (not d || false) (paint v (glyphs i.what)) [] ++ cells before j (cond (not d || false) (set_key j i.what v) v) (begin l) ≡ cond (not d) (paint v (glyphs i.what)) [] ++ cells live j (cond (not d) (set_key j i.what v) v) l
    go true ih = ih v
    go false ih = ap (λ (x : List Cell). paint v (glyphs i.what) ++ x) (ih (set_key j i.what v))

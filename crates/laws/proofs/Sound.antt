-- Every edit leaves a sound list: fields in range, lengths that add up, each number once. One recursion over its steps for each.
use Prim.Native.Nat.{ℕ, suc, ◌+◌, ◌≤◌, ◌<◌}
use mathlib.Core.Path.{◌≡◌, refl, sym, subst}
use mathlib.Core.Bool.{Bool, true, false, cond, not, ◌&&◌, ◌||◌}
use mathlib.Core.List.{List, [], ◌∷◌}
use native.Mathlib.Omega.{arith}
use lib.Dec.{eqb, ltb}
use borrow.Author.Tests.{eqb-true, eqb-false, ltb-true, ltb-false}
use Rattle.sets.specs.Sets.{keys}
use Rattle.rules.specs.Sheet.{What, text, embed, mark, Item}
use Rattle.rules.specs.Sound.{Fits, AllFit, held, occurs, below, SoundList}
use Rattle.rules.specs.Rulings.{Byte}
use Rattle.laws.proofs.Lists.{In, here, there}
use Rattle.laws.proofs.Grown.{Grown, same, then, under, marked, adds, kills, halves, Fresh, embeds, texts, grown-count}

abbrev AllSmall : List ℕ → Type 0
AllSmall [] = Unit {0}
AllSmall (k ∷ ks) = (k < 16) × AllSmall ks

small_in : (k : ℕ) (ks : List ℕ) → In k ks → AllSmall ks → k < 16
small_in k [] i h = elim i [ ]
small_in k (c ∷ ks) (here e) h = subst (λ (x : ℕ). x < 16) (sym e) h.0
small_in k (c ∷ ks) (there i) h = small_in k ks i h.1

key-small : (k : ℕ) → In k keys → k < 16
unfolding keys
key-small k i = small_in k keys i (omega arith, (omega arith, (omega arith, (omega arith, (omega arith, (omega arith, (omega arith, (omega arith, (omega arith, (omega arith, (omega arith, (omega arith, (omega arith, (omega arith, (omega arith, (omega arith, tt))))))))))))))))

fresh-used : {N : What → Type 0} {w : What} {u u' : ℕ} → Fresh N w u u' → u ≤ u'
fresh-used (embeds x q) = omega arith
fresh-used (texts n h h') = omega arith

pub grown-used : {P C : ℕ → Type 0} {N : What → Type 0} {l l' : List Item} {m m' u u' : ℕ} → Grown P C N l m u l' m' u' → u ≤ u'
grown-used same = omega arith
grown-used (then g h) = omega (arith, grown-used g, grown-used h)
grown-used (under g) = grown-used g
grown-used (marked k v i p) = omega arith
grown-used (adds f) = fresh-used f
grown-used (kills i h) = omega arith
grown-used (halves k s w f n h h' c) = omega arith

fits_on : (w : What) (u u' : ℕ) → u ≤ u' → Fits u w → Fits u' w
fits_on (text s n) u u' h f = (f.0, omega (arith, f.1))
fits_on (embed e) u u' h f = tt
fits_on (mark k v) u u' h f = f

fit_on : (l : List Item) (u u' : ℕ) → u ≤ u' → AllFit u l → AllFit u' l
fit_on [] u u' h f = tt
fit_on (i ∷ l) u u' h f = (f.0, fits_on i.what u u' h f.1, fit_on l u u' h f.2)

pub grown-fit : {C : ℕ → Type 0} {N : What → Type 0} {l l' : List Item} {m m' u u' : ℕ} → Grown Byte C N l m u l' m' u' → AllFit u l → AllFit u' l'
grown-fit same h = h
grown-fit (then g g') h = grown-fit g' (grown-fit g h)
grown-fit (under {i = i} {u = u} {u' = u'} g) h = (h.0, fits_on i.what u u' (grown-used g) h.1, grown-fit g h.2)
grown-fit (marked k v i p) h = (refl, (key-small k i, p), h)
grown-fit (adds (embeds x q)) h = (refl, tt, h)
grown-fit (adds {l = l} {u = u} (texts n q q')) h = (refl, (q, omega arith), fit_on l u (u + n) (omega arith) h)
grown-fit (kills i q) h = (go i.flags.added, h.1, h.2)
  where
    go : (b : Bool) → (not true || true) && (not (b && true) || true) ≡ true
    go true = refl
    go false = refl
grown-fit (halves k s w f n q q' c) h = (h.0, (q, omega (arith, h.1.1)), (h.0, (omega arith, omega (arith, h.1.1)), h.2))

pub grown-held : {P C : ℕ → Type 0} {N : What → Type 0} {l l' : List Item} {m m' u u' : ℕ} → Grown P C N l m u l' m' u' → held l' + u ≡ held l + u'
grown-held same = refl
grown-held (then g h) = omega (arith, grown-held g, grown-held h)
grown-held (under {i = i} g) = omega (arith, grown-held g)
grown-held (marked k v i p) = omega arith
grown-held (adds (embeds x q)) = omega arith
grown-held (adds (texts n q q')) = omega arith
grown-held (kills i q) = refl
grown-held (halves k s w f n q q' c) = omega arith

next-below : (j m : ℕ) → cond (eqb j m) 1 0 + below j m ≡ below j (suc m)
next-below j m = go (eqb j m) refl (ltb j m) refl (ltb j (suc m)) refl
  where
    go : (a : Bool) → eqb j m ≡ a → (b : Bool) → ltb j m ≡ b → (c : Bool) → ltb j (suc m) ≡ c → cond a 1 0 + cond b 1 0 ≡ cond c 1 0
    go true e true f c g = absurd (omega (arith, eqb-true j m e, ltb-true j m f))
    go true e false f true g = refl
    go true e false f false g = absurd (omega (arith, eqb-true j m e, ltb-false j (suc m) g))
    go false e true f true g = refl
    go false e true f false g = absurd (omega (arith, ltb-true j m f, ltb-false j (suc m) g))
    go false e false f true g = absurd (eqb-false j m e (omega (arith, ltb-false j m f, ltb-true j (suc m) g)))
    go false e false f false g = refl

pub grown-once : (j : ℕ) {P C : ℕ → Type 0} {N : What → Type 0} {l l' : List Item} {m m' u u' : ℕ} → Grown P C N l m u l' m' u' → occurs j l' + below j m ≡ occurs j l + below j m'
grown-once j same = refl
grown-once j (then g h) = omega (arith, grown-once j g, grown-once j h)
grown-once j (under g) = omega (arith, grown-once j g)
grown-once j (marked {m = m} k v i p) = omega (arith, next-below j m)
grown-once j (adds {m = m} f) = omega (arith, next-below j m)
grown-once j (kills i q) = refl
grown-once j (halves {m = m} k s w f n q q' c) = omega (arith, next-below j m)

-- What an edit makes of a sound list is sound.
pub grown-sound : {C : ℕ → Type 0} {N : What → Type 0} {l l' : List Item} {m m' u u' : ℕ} → Grown Byte C N l m u l' m' u' → SoundList l m u → SoundList l' m' u'
grown-sound g s = record {
  fit = grown-fit g s.fit;
  whole = omega (arith, grown-held g, s.whole);
  once = λ j. omega (arith, grown-once j g, s.once j);
  count = omega (arith, grown-count g, s.count);
}

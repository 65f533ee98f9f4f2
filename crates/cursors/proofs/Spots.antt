-- A place moves on by an item: what it stands on, and what the records are from there. Assumes nothing.
use Prim.Native.Nat.{ℕ, zero, suc, ◌+◌, ◌-◌, ◌<◌}
use native.Mathlib.Omega.{arith}
use mathlib.Core.Path.{◌≡◌, refl, sym, ap, ap₂, ◌∙◌, subst}
use mathlib.Core.Bool.{Bool, true, false, cond, not, true≢false}
use mathlib.Core.List.{List, [], ◌∷◌}
use lib.ListN.{length, get_or}
use Rattle.attrs.specs.declared.Attrs.{Attrs}
use Rattle.sets.specs.Sets.{Env}
use Rattle.attrs.specs.Packed.{env_of}
use Rattle.rules.specs.Sheet.{What, text, embed, mark, width, Item}
use Rattle.rules.specs.Reading.{live, pass_key, visible, Glyph, unit, units_of}
use Rattle.rules.specs.Sound.{Fits, AllFit}
use Rattle.rules.specs.Runs.{words, object, Run as Stretch, runs_from, ahead, joined}
use Rattle.layout.specs.declared.word.Content.{Content}
use Rattle.layout.specs.declared.word.Content.TheVariants.{Text, Embed, Mark}
use Rattle.layout.specs.declared.word.Item.{Item as Entry}
use Rattle.layout.specs.Word.{shown_len}
use Rattle.layout.specs.Word.{what_of, unpack_of}
use Rattle.layout.specs.Chain.{chain, item_at, next_at}
use Rattle.laws.proofs.Lists.{length-units}
use Rattle.layout.proofs.Links.{walks-lt, walks_next, chain-step}
use Rattle.cursors.specs.declared.run.Run.{Run}
use Rattle.cursors.specs.declared.walk.Spot.{Spot}
use Rattle.cursors.specs.Records.{record_of, records_of, runs_by}
use Rattle.layout.specs.Force.{mark_on}
use Rattle.cursors.specs.Cursors.{passes_of, passed_by, past_of, rest, records_at, Plain, Stands, text_record, embed_record, Skipped, Gathered}
use Rattle.cursors.proofs.Forces.{plain-passed, env-passed, count-plain}

-- the item at a place, and the place behind it
abbrev pub here : List ℕ → Spot → Item
here m s = item_at m s.at

abbrev pub next : List ℕ → Spot → Spot
next m s = past_of s (unpack_of (get_or m s.at 0))

pub rest-next : (m : List ℕ) (s : Spot) → 0 < s.todo → rest m s ≡ here m s ∷ rest m (next m s)
rest-next m s h = chain-step s.todo m s.at h

pub rest-none : (m : List ℕ) (s : Spot) → s.todo ≡ 0 → rest m s ≡ []
unfolding chain
rest-none m s e = rw e

-- ---- the next place

seen-width : (d : Bool) (n : ℕ) → cond (not d) n 0 ≡ cond d 0 n
seen-width true n = refl
seen-width false n = refl

-- what a step asks, and that the place behind it stands too
pub record Stepped (m : List ℕ) (s : Spot) : Type 0 where
  pub below : s.at < length m
  pub used : ℕ
  pub fits : Fits used (here m s).what
  pub sum : s.passed + shown_len (here m s).flags.dead (here m s).what < 4294967296
  pub stands : Stands m (next m s)

pub steps : (m : List ℕ) (s : Spot) → Stands m s → 0 < s.todo → Stepped m s
steps m s st h =
    let cut = rest-next m s h in
    let fit : AllFit st.used (here m s ∷ rest m (next m s)) = subst (AllFit st.used) cut st.fit in
    let w = seen-width (here m s).flags.dead (width (here m s).what) in
    let room : s.passed + (cond (not (here m s).flags.dead) (width (here m s).what) 0 + visible (rest m (next m s))) < 4294967296 = subst (λ (l : List Item). s.passed + visible l < 4294967296) cut st.room in
    record {
      below = walks-lt (length m) s.todo m s.at h st.walk;
      used = st.used;
      fits = fit.1;
      sum = omega arith;
      stands =
          record {
            used = st.used;
            walk = walks_next (length m) s.todo m s.at h st.walk;
            fit = fit.2;
            room = omega arith;
            plain = plain-passed s.force st.used (here m s).flags.dead (here m s).what fit.1 st.plain;
          };
    }

-- ---- between runs

pass-runs : (i : Item) (e : Env) (l : List Item) → passes_of i.flags.dead i.what ≡ true
    → runs_from [] e (i ∷ l) ≡ runs_from [] (λ k. pass_key live k i (e k)) l
unfolding passes_of
pass-runs i e l = go i.flags.dead i.what
  where
    go : (d : Bool) (w : What) → passes_of d w ≡ true
        → (let j : Item = record { num = i.num; what = w; flags = record { dead = d; added = i.flags.added; gone = i.flags.gone } } in
        runs_from [] e (j ∷ l) ≡ runs_from [] (λ k. pass_key live k j (e k)) l)
    go true w p = refl
    go false (text s n) p = absurd (true≢false (sym p))
    go false (embed x) p = absurd (true≢false (sym p))
    go false (mark k v) p = refl

pass-width : (d : Bool) (w : What) → passes_of d w ≡ true → shown_len d w ≡ 0
unfolding passes_of
pass-width true w p = refl
pass-width false (text s n) p = absurd (true≢false (sym p))
pass-width false (embed x) p = absurd (true≢false (sym p))
pass-width false (mark k v) p = refl

pub skip_turn : (j : Bool) (m : List ℕ) (s : Spot) → Stands m s → 0 < s.todo → passes_of (here m s).flags.dead (here m s).what ≡ true
    → records_at j m s ≡ records_at j m (next m s)
unfolding records_at
skip_turn j m s st h p =
    let t = steps m s st h in
    let w = pass-width (here m s).flags.dead (here m s).what p in
    let e = env-passed s.force t.used (here m s) t.fits in
    let same : s.passed + shown_len (here m s).flags.dead (here m s).what ≡ s.passed = omega arith in
    ap (λ (l : List Item). records_of s.passed (runs_by j (runs_from [] (env_of s.force) l))) (rest-next m s h)
    ∙ ap (λ (l : List Stretch). records_of s.passed (runs_by j l)) (pass-runs (here m s) (env_of s.force) (rest m (next m s)) p)
    ∙ ap₂ (λ (n : ℕ) (f : Env). records_of n (runs_by j (runs_from [] f (rest m (next m s))))) (sym same) (sym e)

-- no item, no record
pub records-none : (j : Bool) (m : List ℕ) (s : Spot) → s.todo ≡ 0 → records_at j m s ≡ []
unfolding records_at records_of runs_by
records-none j m s e = ap (λ (l : List Item). records_of s.passed (runs_by j (runs_from [] (env_of s.force) l))) (rest-none m s e) ∙ go j
  where
    go : (j : Bool) → records_of s.passed (runs_by j []) ≡ []
    go true = refl
    go false = refl

-- ---- an embed

embed-ahead : (x : ℕ) (e : Env) (rs : List Stretch) → ahead (record { chunk = object x; force = e }) rs ≡ record { chunk = object x; force = e } ∷ rs
embed-ahead x e [] = refl
embed-ahead x e (s ∷ rs) = refl

embed-runs : (j : Bool) (x : ℕ) (e : Env) (rs : List Stretch)
    → runs_by j (record { chunk = object x; force = e } ∷ rs) ≡ record { chunk = object x; force = e } ∷ runs_by j rs
unfolding runs_by
embed-runs true x e rs = embed-ahead x e (joined rs)
embed-runs false x e rs = refl

-- a record over a set by value is one over what it puts in force
pub text-record : (a : ℕ) (gs : List Glyph) (f : Attrs) → Plain f → record_of a (record { chunk = words gs; force = env_of f }) ≡ text_record a (length gs) f
text-record a gs f p =
    ap₂ (λ (n : ℕ) (b : Attrs). record { embed = false; start = a; len = length gs; number = 0; count = n; attrs = b }) (sym (count-plain f p)) (sym p)

embed-record : (a x : ℕ) (f : Attrs) → Plain f → record_of a (record { chunk = object x; force = env_of f }) ≡ embed_record a x f
embed-record a x f p =
    ap₂ (λ (n : ℕ) (b : Attrs). record { embed = true; start = a; len = 1; number = x; count = n; attrs = b }) (sym (count-plain f p)) (sym p)

-- ---- a live item

pub live-item : (i : Item) (w : What) → i.flags.dead ≡ false → i.what ≡ w
    → i ≡ record { num = i.num; what = w; flags = record { dead = false; added = i.flags.added; gone = i.flags.gone } }
live-item i w d e =
    ap₂ (λ (x : Bool) (y : What). record { num = i.num; what = y; flags = record { dead = x; added = i.flags.added; gone = i.flags.gone } }) d e

module _ (m : List ℕ) (s : Spot) (w : What) (awake : (here m s).flags.dead ≡ false) (is : (here m s).what ≡ w) where
  -- the place behind it
  pub next-live : next m s ≡ record { at = next_at m s.at; todo = s.todo - 1; passed = s.passed + width w; force = mark_on s.force w }
  unfolding passed_by
  next-live =
      ap₂ (λ (x : Bool) (y : What). record { at = next_at m s.at; todo = s.todo - 1; passed = s.passed + shown_len x y; force = passed_by s.force x y }) awake is

  pub rest_live : 0 < s.todo
      → rest m s ≡ record { num = s.at; what = w; flags = record { dead = false; added = (here m s).flags.added; gone = (here m s).flags.gone } } ∷ rest m (next m s)
  rest_live h = rest-next m s h ∙ ap (λ (i : Item). i ∷ rest m (next m s)) (live-item (here m s) w awake is)

module _ (j : Bool) (m : List ℕ) (s : Spot) (st : Stands m s) (h : 0 < s.todo) (awake : (here m s).flags.dead ≡ false) where
  pub embed-here : (x : ℕ) → (here m s).what ≡ embed x → records_at j m s ≡ embed_record s.passed x s.force ∷ records_at j m (next m s)
  unfolding records_at records_of mark_on
  embed-here x is =
      ap (λ (l : List Item). records_of s.passed (runs_by j (runs_from [] (env_of s.force) l))) (rest_live m s (embed x) awake is h)
      ∙ ap (records_of s.passed) (embed-runs j x (env_of s.force) (runs_from [] (env_of s.force) (rest m (next m s))))
      ∙ ap (λ (r : Run). r ∷ records_of (s.passed + 1) (runs_by j (runs_from [] (env_of s.force) (rest m (next m s))))) (embed-record s.passed x s.force st.plain)
      ∙ ap (λ (t : Spot). embed_record s.passed x s.force ∷ records_of t.passed (runs_by j (runs_from [] (env_of t.force) (rest m (next m s))))) (sym (next-live m s (embed x) awake is))

  -- a text run begins
  pub text-here : (a n : ℕ) → (here m s).what ≡ text a n → records_at j m s ≡ records_of s.passed (runs_by j (runs_from (units_of a n) (env_of (next m s).force) (rest m (next m s))))
  unfolding records_at mark_on
  text-here a n is =
      ap (λ (l : List Item). records_of s.passed (runs_by j (runs_from [] (env_of s.force) l))) (rest_live m s (text a n) awake is h)
      ∙ ap (λ (t : Spot). records_of s.passed (runs_by j (runs_from (units_of a n) (env_of t.force) (rest m (next m s))))) (sym (next-live m s (text a n) awake is))

pub units-some : (a n : ℕ) → 0 < n → units_of a n ≡ unit a ∷ units_of (suc a) (n - 1)
units-some a zero h = absurd (omega arith)
units-some a (suc n) h = let e : suc n - 1 ≡ n = omega arith in rw e

-- .. and is gathered up to where it ends
pub text-gathered : (j : Bool) (m : List ℕ) (s : Spot) (st : Stands m s) (h : 0 < s.todo) (awake : (here m s).flags.dead ≡ false) (a n : ℕ) → (here m s).what ≡ text a n → 0 < n
    → (r : Spot) → Gathered j m (next m s) r → records_at j m s ≡ text_record s.passed (r.passed - s.passed) s.force ∷ records_at j m r
unfolding mark_on
text-gathered j m s st h awake a n is some r g =
    let on = next-live m s (text a n) awake is in
    let long : s.passed + length (unit a ∷ units_of (suc a) (n - 1)) ≡ (next m s).passed =
    ap (λ (l : List Glyph). s.passed + length l) (sym (units-some a n some)) ∙ ap (λ (k : ℕ). s.passed + k) (length-units a n) ∙ ap (λ (t : Spot). t.passed) (sym on) in
    text-here j m s st h awake a n is
    ∙ ap (λ (l : List Glyph). records_of s.passed (runs_by j (runs_from l (env_of (next m s).force) (rest m (next m s))))) (units-some a n some)
    ∙ g.run s.passed (unit a) (units_of (suc a) (n - 1)) long
    ∙ ap (λ (t : Spot). text_record s.passed (r.passed - s.passed) t.force ∷ records_at j m r) on

-- ---- the next run

-- no deleted item
awake-of : (d : Bool) (w : What) → passes_of d w ≡ false → d ≡ false
unfolding passes_of
awake-of true w p = p
awake-of false w p = refl

record Other (w : What) : Type 0 where
  pub start : ℕ
  pub len : ℕ
  pub is : w ≡ text start len
  pub some : 0 < len

-- what is not passed and no embed is a text, and no text is empty
other : (c : Content) (used : ℕ) (d : Bool) → ((x : ℕ) → c ≡ Embed x → ⊥) → passes_of d (what_of c) ≡ false → Fits used (what_of c) → Other (what_of c)
unfolding passes_of
other (Text s n) used d t p f = record { start = s; len = n; is = refl; some = f.0 }
other (Embed x) used d t p f = absurd (t x refl)
other (Mark k v) used true t p f = absurd (true≢false p)
other (Mark k v) used false t p f = absurd (true≢false p)

module _ (j : Bool) (m : List ℕ) (c s : Spot) (sk : Skipped m c s) where
  pub next-none : s.todo ≡ 0 → (records_at j m c ≡ []) × (records_at j m s ≡ [])
  next-none z = let e = records-none j m s z in (sk.same j ∙ e, e)

  module _ (h : 0 < s.todo) where
    awake : (here m s).flags.dead ≡ false
    awake = awake-of (here m s).flags.dead (here m s).what (sk.stops h)

    pub next-embed : (x : ℕ) → (here m s).what ≡ embed x → records_at j m c ≡ embed_record s.passed x s.force ∷ records_at j m (next m s)
    next-embed x is = sk.same j ∙ embed-here j m s sk.stands h awake x is

    -- a live embed is one unit, and what is in force stays
    pub embed-sum : (x : ℕ) → (here m s).what ≡ embed x → s.passed + 1 < 4294967296
    embed-sum x is = omega (arith, (steps m s sk.stands h).sum, ap₂ shown_len awake is)

    pub behind-embed : (x : ℕ) → (here m s).what ≡ embed x → record { at = next_at m s.at; todo = s.todo - 1; passed = s.passed + 1; force = s.force } ≡ next m s
    unfolding mark_on
    behind-embed x is = sym (next-live m s (embed x) awake is)

    pub next-text : (it : Entry) → it ≡ unpack_of (get_or m s.at 0) → ((x : ℕ) → it.content ≡ Embed x → ⊥) → (r : Spot) → Gathered j m (next m s) r
        → records_at j m c ≡ text_record s.passed (r.passed - s.passed) s.force ∷ records_at j m r
    next-text it e k r g =
        let t = steps m s sk.stands h in
        let o = other (unpack_of (get_or m s.at 0)).content t.used (here m s).flags.dead (subst (λ (i : Entry). (x : ℕ) → i.content ≡ Embed x → ⊥) e k) (sk.stops h) t.fits in
        sk.same j ∙ text-gathered j m s sk.stands h awake o.start o.len o.is o.some r g

-- What is shown from a place, unit by unit. Assumes nothing.
use Prim.Native.Nat.{ℕ, zero, suc, ◌+◌, ◌-◌, ◌<◌, ◌≤◌}
use native.Mathlib.Nat.{add-zero}
use native.Mathlib.Numerals.{add-one}
use native.Mathlib.Omega.{arith}
use mathlib.Core.Path.{◌≡◌, refl, sym, ap, ap₂, subst, ◌∙◌}
use mathlib.Core.Bool.{Bool, true, false, cond, not}
use mathlib.Core.List.{List, [], ◌∷◌, ◌++◌, map}
use lib.ListN.{length, get_or, drop, length-append, get_or-append}
use lib.Seq.{drop-cons, drop-append-add, drop-nil}
use Rattle.rules.specs.Sheet.{What, text, embed, mark, width, Item}
use Rattle.rules.specs.Reading.{Glyph, units_of, glyphs, live, seen_glyphs}
use Rattle.rules.specs.Sound.{Fits, AllFit}
use Rattle.rules.specs.Calls.{unit_at, visible_units}
use Rattle.layout.specs.declared.word.Content.{Content}
use Rattle.layout.specs.declared.word.Content.TheVariants.{Text}
use Rattle.std.proofs.lemmas.List.{map-append, length-map}
use Rattle.laws.proofs.Lists.{length-glyphs}
use Rattle.layout.specs.Word.{what_of}
use Rattle.layout.specs.Chain.{chain, item_at, next_at}
use Rattle.layout.proofs.Links.{walks-lt, walks_next, chain-step}
use Rattle.layout.specs.Word.{shown_len}
use Rattle.ranges.specs.Texts.{unit_in, units_from, showing, left_from, LiesIn, Shows, Reads}

-- ---- one item

abbrev pub shown_of : List ℕ → Bool → What → List ℕ
shown_of u d w = map (unit_at u) (cond (not d) (glyphs w) [])

units_of_lem : (u : List ℕ) (gs hs : List Glyph) → map (unit_at u) (gs ++ hs) ≡ map (unit_at u) gs ++ map (unit_at u) hs
units_of_lem u gs hs = map-append (unit_at u) gs hs

pub shown-cons : (u : List ℕ) (i : Item) (l : List Item) → visible_units u (i ∷ l) ≡ shown_of u i.flags.dead i.what ++ visible_units u l
shown-cons u i l = units_of_lem u (cond (live i.flags) (glyphs i.what) []) (seen_glyphs l)

pub length-shown : (u : List ℕ) (d : Bool) (w : What) → length (shown_of u d w) ≡ shown_len d w
length-shown u true w = refl
length-shown u false w = length-map (glyphs w) (unit_at u) ∙ length-glyphs w

piece-at : (u : List ℕ) (s n k : ℕ) → k < n → get_or (map (unit_at u) (units_of s n)) k 0 ≡ get_or u (s + k) 0
piece-at u s zero k l = absurd (omega arith)
piece-at u s (suc n) zero l = ap (λ (x : ℕ). get_or u x 0) (sym (add-zero s))
piece-at u s (suc n) (suc k) l =
    let e : suc s + k ≡ s + suc k = omega arith in
    piece-at u (suc s) n k (omega arith) ∙ ap (λ (x : ℕ). get_or u x 0) e

shown-at : (u : List ℕ) (d : Bool) (w : What) (k : ℕ) → k < shown_len d w → get_or (shown_of u d w) k 0 ≡ unit_in u w k
unfolding unit_in
shown-at u true w k l = absurd (omega arith)
shown-at u false (text s n) k l = piece-at u s n k l
shown-at u false (embed x) zero l = refl
shown-at u false (embed x) (suc k) l = absurd (omega arith)
shown-at u false (mark j v) k l = absurd (omega arith)

pub width_of : (d : Bool) (w : What) (k : ℕ) → k < shown_len d w → k < width w
width_of true w k l = absurd (omega arith)
width_of false w k l = l

shown-within : (d : Bool) (w : What) → shown_len d w ≤ width w
shown-within true w = omega arith
shown-within false w = omega arith

lies_in : (used long : ℕ) (w : What) → used ≤ long → Fits used w → LiesIn long w
lies_in used long (text s n) l f = omega (arith, f.1)
lies_in used long (embed x) l f = tt
lies_in used long (mark k v) l f = tt

-- ---- a place

module _ (m u : List ℕ) (at todo : ℕ) where
  pub shows-none : (off : ℕ) → todo ≡ 0 → showing m u at todo off ≡ []
  unfolding showing chain
  shows-none off e = rw e (drop-nil off)

  module _ (some : 0 < todo) where
    fit-here : (r : Reads m u at todo) → AllFit r.used (item_at m at ∷ chain (todo - 1) m (next_at m at))
    fit-here r = subst (AllFit r.used) (chain-step todo m at some) r.fit

    pub reads-below : Reads m u at todo → at < length m
    reads-below r = walks-lt (length m) todo m at some r.walk

    pub reads-lies : Reads m u at todo → LiesIn (length u) (item_at m at).what
    reads-lies r = lies_in r.used (length u) (item_at m at).what r.room (fit-here r).1

    pub reads-shows : Reads m u at todo → Shows (length u) (item_at m at).what (shown_len (item_at m at).flags.dead (item_at m at).what)
    reads-shows r = (reads-lies r, shown-within (item_at m at).flags.dead (item_at m at).what)

    pub reads-next : Reads m u at todo → Reads m u (next_at m at) (todo - 1)
    reads-next r = record { used = r.used; walk = walks_next (length m) todo m at some r.walk; fit = (fit-here r).2; room = r.room }

    abbrev here : List ℕ
    here = shown_of u (item_at m at).flags.dead (item_at m at).what

    abbrev left : List ℕ
    left = visible_units u (chain (todo - 1) m (next_at m at))

    shows-cons : visible_units u (chain todo m at) ≡ here ++ left
    shows-cons = ap (visible_units u) (chain-step todo m at some) ∙ shown-cons u (item_at m at) (chain (todo - 1) m (next_at m at))

    long : length here ≡ shown_len (item_at m at).flags.dead (item_at m at).what
    long = length-shown u (item_at m at).flags.dead (item_at m at).what

    module _ (off : ℕ) where
      pub shows-pass : shown_len (item_at m at).flags.dead (item_at m at).what ≤ off
          → showing m u at todo off ≡ showing m u (next_at m at) (todo - 1) (off - shown_len (item_at m at).flags.dead (item_at m at).what)
      unfolding showing
      shows-pass l =
          let w = shown_len (item_at m at).flags.dead (item_at m at).what in
          let e : off ≡ length here + (off - w) = omega (arith, long) in
          ap₂ drop e shows-cons ∙ drop-append-add here left (off - w)

      pub shows-here : off < shown_len (item_at m at).flags.dead (item_at m at).what
          → showing m u at todo off ≡ unit_in u (item_at m at).what off ∷ showing m u at todo (off + 1)
      unfolding showing
      shows-here l =
          let v : off < length (visible_units u (chain todo m at)) = rw shows-cons (simp length-append (omega (arith, long))) in
          let first : get_or (visible_units u (chain todo m at)) off 0 ≡ unit_in u (item_at m at).what off =
          ap (λ (x : List ℕ). get_or x off 0) shows-cons
          ∙ get_or-append here left 0 off (omega (arith, long))
          ∙ shown-at u (item_at m at).flags.dead (item_at m at).what off l in
          drop-cons (visible_units u (chain todo m at)) off 0 v
          ∙ ap₂ (λ (x k : ℕ). x ∷ drop k (visible_units u (chain todo m at))) first (sym (add-one off))

    -- what the item shows, and then what the next ones show
    shows-rest : (n off : ℕ) → n ≡ shown_len (item_at m at).flags.dead (item_at m at).what - off
        → showing m u at todo off ≡ units_from u (item_at m at).what off n ++ showing m u (next_at m at) (todo - 1) (off - shown_len (item_at m at).flags.dead (item_at m at).what)
    unfolding units_from
    shows-rest zero off e = shows-pass off (omega (arith, e))
    shows-rest (suc n) off e =
        let w = shown_len (item_at m at).flags.dead (item_at m at).what in
        let same : off + 1 - w ≡ off - w = omega (arith, e) in
        shows-here off (omega (arith, e))
        ∙ ap (λ (l : List ℕ). unit_in u (item_at m at).what off ∷ l)
        (shows-rest n (off + 1) (omega (arith, e))
        ∙ ap (λ (k : ℕ). units_from u (item_at m at).what (off + 1) n ++ showing m u (next_at m at) (todo - 1) k) same)

-- ---- what is left with an item that is unpacked

module _ (m u : List ℕ) (w : What) (wide at todo off : ℕ) where
  pub left-here : off < wide → left_from m u w wide at todo off ≡ unit_in u w off ∷ left_from m u w wide at todo (off + 1)
  unfolding units_from
  left-here l =
      let more : wide - off ≡ suc (wide - (off + 1)) = omega arith in
      let past : off - wide ≡ off + 1 - wide = omega arith in
      ap₂ (λ (n k : ℕ). units_from u w off n ++ showing m u at todo k) more past

  module _ (l : wide ≤ off) where
    pub left-past : left_from m u w wide at todo off ≡ showing m u at todo (off - wide)
    unfolding units_from
    left-past =
        let none : wide - off ≡ 0 = omega arith in
        ap (λ (n : ℕ). units_from u w off n ++ showing m u at todo (off - wide)) none

    pub left-none : todo ≡ 0 → left_from m u w wide at todo off ≡ []
    left-none e = left-past ∙ shows-none m u at todo (off - wide) e

    pub left-next : 0 < todo
        → left_from m u w wide at todo off
        ≡ left_from m u (item_at m at).what (shown_len (item_at m at).flags.dead (item_at m at).what) (next_at m at) (todo - 1) (off - wide)
    left-next some = left-past ∙ shows-rest m u at todo some _ (off - wide) refl

-- before the first item nothing is unpacked
pub left-first : (m u : List ℕ) (w : What) (at todo off : ℕ) → left_from m u w 0 at todo off ≡ showing m u at todo off
left-first m u w at todo off = left-past m u w 0 at todo off (omega arith) ∙ ap (showing m u at todo) (omega arith)

-- a unit of a text lies in the units
pub in-piece : (c : Content) (s n k long : ℕ) → c ≡ Text s n → LiesIn long (what_of c) → k < width (what_of c) → s + k < long
in-piece c s n k long e l h =
    let l' : s + n ≤ long = subst (λ (x : Content). LiesIn long (what_of x)) e l in
    let h' : k < n = subst (λ (x : Content). k < width (what_of x)) e h in
    omega arith

-- A sound sheet in its buffers and a sound sheet of the rules: each from the other. Assumes nothing.
use Prim.Native.Nat.{ℕ, zero, suc, ◌+◌, ◌<◌, ◌≤◌}
use native.Mathlib.Omega.{arith}
use mathlib.Core.Path.{◌≡◌, refl, sym, ap, ap₂, ◌∙◌}
use mathlib.Core.Bool.{true}
use mathlib.Core.List.{List, [], ◌∷◌, ◌++◌}
use lib.ListN.{length, get_or, take, drop, length-append, length-drop, take-append-drop}
use lib.Seq.{length-take-le, take-append_seam, take-append-le, drop-append-le}
use lib.Dec.{ltb}
use borrow.Author.Tests.{lt-ltb}
use Rattle.units.specs.Surrogates.{paired}
use Rattle.units.proofs.Halves.{both}
use Rattle.rules.specs.Sheet.{What, text, embed, mark, Item}
use Rattle.rules.specs.Sound.{Fits, AllFit, held}
use Rattle.rules.specs.Calls.{Sheet, PairedWhat, AllPaired}
use Rattle.rules.specs.Rulings.{InWord, AllInWord, SoundSheet}
use Rattle.layout.specs.declared.head.Head.{Head}
use Rattle.layout.specs.Word.{in_range}
use Rattle.layout.specs.Chain.{END, item_at, next_at, chain, head_or}
use Rattle.layout.specs.Heads.{grown_head}
use Rattle.layout.specs.Memory.{list_of, model_of, what_ok, word_ok, each_ok, sound_of, Sound, stored, stored_units}
use Rattle.layout.proofs.Links.{head-is, length-chain}
use Rattle.layout.proofs.Numbers.{Once, below_yes, once-parts}
use Rattle.layout.proofs.Soundness.{piece_in, piece-parts, mark-parts, word_on, word-parts, sound-parts, sound-whole}
use Rattle.layout.proofs.Copies.{walk-once}
use Rattle.layout.proofs.Stored.{Holds, AllHold, chain-holds, each-parts, each_more, each_at, length-stored, Lying, stored_same, stored-lies}

-- ---- from the buffers to the rules
-- a piece that lies in a front part of the units is a piece of that part
pub piece_front : (u v : List ℕ) (s n : ℕ) → s + n ≤ length u → take n (drop s (u ++ v)) ≡ take n (drop s u)
piece_front u v s n h = ap (take n) (drop-append-le s u v (omega arith)) ∙ take-append-le n (drop s u) v (omega (arith, length-drop s u))

pub piece-used : (u : List ℕ) (used s n : ℕ) → used ≤ length u → s + n ≤ used → take n (drop s (take used u)) ≡ take n (drop s u)
piece-used u used s n room h =
    let e = length-take-le used u room in
    sym (piece_front (take used u) (drop used u) s n (omega arith)) ∙ ap (λ (x : List ℕ). take n (drop s x)) (take-append-drop used u)

pub units-back : (u : List ℕ) (used : ℕ) → used ≤ length u → stored_units (take used u) u ≡ u
units-back u used room = ap (λ (n : ℕ). take used u ++ drop n u) (length-take-le used u room) ∙ take-append-drop used u

module _ (u : List ℕ) (used : ℕ) (room : used ≤ length u) where
  what-fits : (w : What) → what_ok u used w ≡ true → Fits used w
  what-fits (text s n) e = let p = piece-parts u used s n e in (p.0, p.1)
  what-fits (embed x) e = tt
  what-fits (mark k v) e = mark-parts u used k v e

  what-paired : (w : What) → what_ok u used w ≡ true → PairedWhat (take used u) w
  what-paired (text s n) e = let p = piece-parts u used s n e in ap paired (piece-used u used s n room p.1) ∙ p.2
  what-paired (embed x) e = tt
  what-paired (mark k v) e = tt

  chain-fit : (f : ℕ) (m : List ℕ) (s : ℕ) → each_ok (word_ok u used) f m s ≡ true → AllFit used (chain f m s) × AllPaired (take used u) (chain f m s)
  unfolding chain
  chain-fit zero m s e = (tt, tt)
  chain-fit (suc f) m s e =
      let p = each-parts (word_ok u used) f m s e in
      let q = word-parts u used (get_or m s 0) p.0 in
      let r = chain-fit f m (next_at m s) p.1 in
      ((q.1, what-fits (item_at m s).what q.2, r.0), (what-paired (item_at m s).what q.2, r.1))

-- a word holds no embed over 32 bits
chain-narrow : (f : ℕ) (m : List ℕ) (s : ℕ) → AllInWord (chain f m s)
unfolding chain
chain-narrow zero m s = tt
chain-narrow (suc f) m s = (go (item_at m s).what (chain-holds (suc f) m s).0, chain-narrow f m (next_at m s))
  where
    go : (w : What) → Holds (record { num = s; what = w; flags = (item_at m s).flags }) → InWord w
    go (text a b) p = tt
    go (embed e) p = p
    go (mark k v) p = tt

module _ (h : Head) (m u : List ℕ) (ok : Sound h m u) where
  few : h.items ≤ END
  few = omega (arith, ok.items)

  pub used-length : length (take h.units u) ≡ h.units
  used-length = length-take-le h.units u (omega (arith, ok.used, ok.room))

  -- every number below the next one is met once
  pub sound-once : Once (list_of h m) h.items
  sound-once = walk-once h.items m h.first few ok.walk

  -- The sheet that lies in sound buffers is sound by the rules.
  pub model-sound : SoundSheet (model_of h m u)
  model-sound =
      let f = chain-fit u h.units (omega (arith, ok.used, ok.room)) h.items m h.first ok.each in
      record {
        list = record {
          fit = rw used-length f.0;
          whole = ok.whole ∙ sym used-length;
          once = sound-once;
          count = length-chain h.items m h.first;
        };
        pairs = f.1;
        embeds = chain-narrow h.items m h.first;
        within = record { items = omega (arith, length-chain h.items m h.first, ok.items); units = omega (arith, used-length, ok.used) };
      }

  pub sound-range : each_ok in_range h.items m h.first ≡ true
  sound-range = each_more (word_ok u h.units) in_range (λ w e. (word-parts u h.units w e).0) h.items m h.first ok.each

  -- Storing it again changes nothing: each word is as packing its item makes it.
  pub sound-stored : stored (list_of h m) m ≡ m
  sound-stored = stored_same h.items h.items m h.first few ok.walk sound-range

  pub sound-units : stored_units (take h.units u) u ≡ u
  sound-units = units-back u h.units (omega (arith, ok.used, ok.room))

  pub sound-first : head_or (list_of h m) ≡ h.first
  sound-first = head-is h.items m few h.items h.first ok.walk

  pub sound-head : grown_head h (head_or (list_of h m)) h.items (length (take h.units u)) ≡ h
  sound-head = ap₂ (λ (a b : ℕ). grown_head h a h.items b) sound-first used-length

  -- of each item in use, by number, the word is in order
  pub sound-word : (j : ℕ) → j < h.items → word_ok u h.units (get_or m j 0) ≡ true
  sound-word j l = each_at (word_ok u h.units) h.items m h.first j ok.each (omega (arith, sound-once j, below_yes j h.items l))

-- ---- from the rules to the buffers
what-holds : (used : ℕ) (i : Item) → used ≤ 16384 → Fits used i.what → InWord i.what → Holds i
what-holds used i h f n = go i.what f n
  where
    go : (w : What) → Fits used w → InWord w → Holds (record { num = i.num; what = w; flags = i.flags })
    go (text s k) f n = (omega (arith, f.0, f.1), omega (arith, f.1))
    go (embed e) f n = n
    go (mark k v) f n = (f.0, omega (arith, f.1))

all_hold : (used : ℕ) (l : List Item) → used ≤ 16384 → AllFit used l → AllInWord l → AllHold l
all_hold used [] h f n = tt
all_hold used (i ∷ l) h f n = (what-holds used i h f.1 n.0, all_hold used l h f.2 n.1)

what-ok : (us v : List ℕ) (w : What) → Fits (length us) w → PairedWhat us w → what_ok (us ++ v) (length us) w ≡ true
unfolding what_ok
what-ok us v (text s n) f p = piece_in (us ++ v) (length us) s n f.0 f.1 ∙ ap paired (piece_front us v s n f.1) ∙ p
what-ok us v (embed e) f p = refl
what-ok us v (mark k x) f p = both (ltb k 16) _ (lt-ltb k 16 f.0) (lt-ltb x 256 f.1)

-- words in their range whose items are sound are in order
chain_ok : (us v : List ℕ) (f : ℕ) (m : List ℕ) (s : ℕ) → each_ok in_range f m s ≡ true → AllFit (length us) (chain f m s) → AllPaired us (chain f m s) → each_ok (word_ok (us ++ v) (length us)) f m s ≡ true
unfolding each_ok chain
chain_ok us v zero m s e a p = refl
chain_ok us v (suc f) m s e a p =
    let r = each-parts in_range f m s e in
    both (word_ok (us ++ v) (length us) (get_or m s 0)) _
    (word_on (us ++ v) (length us) (get_or m s 0) r.0 a.0 ∙ what-ok us v (item_at m s).what a.1 p.0)
    (chain_ok us v f m (next_at m s) r.1 a.2 p.1)

-- A sound sheet of the rules, within the limits, stored into buffers of the full size.
module _ (s : Sheet) (h : Head) (m u : List ℕ) (ok : SoundSheet s) (words : length m ≡ 2048) (room : length u ≡ 16384) where
  fewer : s.next ≤ 2048
  fewer = omega (arith, ok.list.count, ok.within.items)

  head : Head
  head = grown_head h (head_or s.items) s.next (length s.units)

  lies : Lying s.next s.items (stored s.items m)
  lies =
      let o = once-parts s.items s.next ok.list.once in
      stored-lies s.next s.items m (omega (arith, fewer)) (omega (arith, fewer)) o.0 o.1 (all_hold (length s.units) s.items ok.within.units ok.list.fit ok.embeds)

  -- Every outcome of a call leaves a sound sheet ..
  pub stored-sound : Sound (grown_head h (head_or s.items) s.next (length s.units)) (stored s.items m) (stored_units s.units u)
  stored-sound =
      let c = ok.list.count in
      let l : chain s.next (stored s.items m) (head_or s.items) ≡ s.items = rw c at lies.list in
      record {
        words = length-stored s.items m ∙ words;
        room = omega (arith, length-append s.units (drop (length s.units) u), length-drop (length s.units) u, ok.within.units);
        items = fewer;
        used = ok.within.units;
        walk = rw c at lies.walk;
        each = chain_ok s.units (drop (length s.units) u) s.next (stored s.items m) (head_or s.items) (rw c at lies.range) (rw l ok.list.fit) (rw l ok.pairs);
        whole = ap held l ∙ ok.list.whole;
      }

  -- .. and it is the sheet that lies in the buffers then.
  pub stored-model : model_of (grown_head h (head_or s.items) s.next (length s.units)) (stored s.items m) (stored_units s.units u) ≡ s
  stored-model =
      let l : chain s.next (stored s.items m) (head_or s.items) ≡ s.items = rw ok.list.count at lies.list in
      ap₂ (λ (is : List Item) (us : List ℕ). record { items = is; next = s.next; units = us }) l (take-append_seam s.units (drop (length s.units) u))

-- ---- exactly when
-- A sheet lies in the buffers: they have their size, the counts keep the limits, the sheet is sound by the rules,
-- the head names its first item, and each used word is as packing its item makes it.
pub record Lies (h : Head) (m u : List ℕ) : Type 0 where
  pub words : length m ≡ 2048
  pub room : length u ≡ 16384
  pub items : h.items ≤ 2048
  pub used : h.units ≤ 16384
  pub sheet : SoundSheet (model_of h m u)
  pub first : head_or (list_of h m) ≡ h.first
  pub packed : stored (list_of h m) m ≡ m

pub sound-lies : (h : Head) (m u : List ℕ) → sound_of h m u ≡ true → Lies h m u
sound-lies h m u e =
    let s = sound-parts h m u e in
    record {
      words = s.words;
      room = s.room;
      items = s.items;
      used = s.used;
      sheet = model-sound h m u s;
      first = sound-first h m u s;
      packed = sound-stored h m u s;
    }

pub lies-sound : (h : Head) (m u : List ℕ) → Lies h m u → sound_of h m u ≡ true
lies-sound h m u k =
    let room : h.units ≤ length u = omega (arith, k.used, k.room) in
    let long = length-take-le h.units u room in
    go (grown_head h (head_or (list_of h m)) h.items (length (take h.units u))) (stored (list_of h m) m) (stored_units (take h.units u) u)
    (ap₂ (λ (a b : ℕ). grown_head h a h.items b) k.first long)
    k.packed
    (units-back u h.units room)
    (stored-sound (model_of h m u) h m u k.sheet k.words k.room)
  where
    go : (h' : Head) (m' u' : List ℕ) → h' ≡ h → m' ≡ m → u' ≡ u → Sound h' m' u' → sound_of h m u ≡ true
    go h' m' u' eh em eu s = sym (ap (λ (a : Head). sound_of a m u) eh) ∙ sym (ap (λ (a : List ℕ). sound_of h' a u) em) ∙ sym (ap (sound_of h' m') eu) ∙ sound-whole h' m' u' s

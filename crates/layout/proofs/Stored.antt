-- What storing a list does to a buffer: the list is what the links then give, each of its words is as packing makes it, and every other word stays.
-- Assumes nothing.
use Prim.Native.Nat.{ℕ, zero, suc, ◌+◌, ◌/◌, ◌%◌, ◌<◌, ◌≤◌}
use native.Mathlib.Omega.{arith}
use mathlib.Core.Path.{◌≡◌, refl, sym, ap, ap₂, ◌∙◌}
use mathlib.Core.Bool.{Bool, true, false, cond}
use mathlib.Core.List.{List, [], ◌∷◌}
use lib.ListN.{length, get_or, set, length-set}
use lib.Seq.{get_or-set_same, get_or-set_other, set-get_or}
use lib.Dec.{eqb, ltb}
use borrow.Author.Tests.{eqb-true, eqb-false, lt-ltb, ltb-true}
use Rattle.units.proofs.Halves.{both, and_left, and_right}
use Rattle.rules.specs.Sheet.{What, text, embed, mark, Item}
use Rattle.rules.specs.Sound.{occurs}
use Rattle.layout.specs.declared.word.Content.{Content}
use Rattle.layout.specs.declared.word.Content.TheVariants.{Text, Embed, Mark}
use Rattle.layout.specs.declared.word.Item.{Item as Unpacked}
use Rattle.layout.specs.Word.{what_of, content_from, unpack_of, pack_of, rest_of, Fitting, in_range}
use Rattle.layout.specs.Chain.{END, item_from, item_at, next_at, chain, walks, head_or}
use Rattle.layout.specs.Memory.{each_ok, content_of, word_of, stored}
use Rattle.layout.proofs.Words.{kind-lt, payload_lt, flag-le, item-rest, pack-rest, pack-next, pack-unpack, fitting_from}
use Rattle.layout.proofs.Links.{walks_parts, Off, Distinct, head-is}
use Rattle.layout.proofs.Writes.{keep, keep_walks}
use Rattle.layout.proofs.Numbers.{AllBelow, head-le}

-- ---- one word
pub content-back : (c : Content) → content_of (what_of c) ≡ c
content-back (Text s l) = refl
content-back (Embed n) = refl
content-back (Mark k v) = refl

pub what-back : (w : What) → what_of (content_of w) ≡ w
what-back (text s n) = refl
what-back (embed e) = refl
what-back (mark k v) = refl

-- an item that a word can hold
abbrev pub Holds : Item → Type 0
Holds i = Fitting (content_of i.what)

abbrev pub AllHold : List Item → Type 0
AllHold [] = Unit
AllHold (i ∷ l) = Holds i × AllHold l

-- packing stays in the range
pub pack-range : (it : Unpacked) → it.next < 4096 → Fitting it.content → in_range (pack_of it) ≡ true
unfolding in_range
pack-range it link h =
    let k = kind-lt it.content in
    let p = payload_lt it.content h in
    let d = flag-le it.dead in
    let a = flag-le it.added in
    let g = flag-le it.gone in
    let e = pack-rest it link in
    both (ltb (pack_of it) 562949953421312) _ (lt-ltb (pack_of it) 562949953421312 (omega arith)) (lt-ltb (pack_of it / 4096 % 4) 3 (omega arith))

-- what is read of an item's word: its link, and the item, under any number
module _ (i : Item) (n : ℕ) (link : n < 4096) where
  pub word_next : word_of i n % 4096 ≡ n
  word_next = pack-next (record { next = n; content = content_of i.what; dead = i.flags.dead; added = i.flags.added; gone = i.flags.gone }) link

  word-rest : word_of i n / 4096 ≡ rest_of (content_of i.what) i.flags.dead i.flags.added i.flags.gone
  word-rest = pack-rest (record { next = n; content = content_of i.what; dead = i.flags.dead; added = i.flags.added; gone = i.flags.gone }) link

  pub word-item : (x : ℕ) → Holds i → item_from x (word_of i n / 4096) ≡ record { num = x; what = i.what; flags = i.flags }
  word-item x h =
      ap (item_from x) word-rest
      ∙ item-rest (content_of i.what) i.flags.dead i.flags.added i.flags.gone x h
      ∙ ap (λ (w : What). record { num = x; what = w; flags = i.flags }) (what-back i.what)

  pub word-range : Holds i → in_range (word_of i n) ≡ true
  word-range h = pack-range (record { next = n; content = content_of i.what; dead = i.flags.dead; added = i.flags.added; gone = i.flags.gone }) link h

-- a word in its range is what packing the item that it says makes
pub range-parts : (w : ℕ) → in_range w ≡ true → (w < 562949953421312) × (w / 4096 % 4 < 3)
unfolding in_range
range-parts w e = (ltb-true w 562949953421312 (and_left (ltb w 562949953421312) _ e), ltb-true (w / 4096 % 4) 3 (and_right (ltb w 562949953421312) _ e))

pub word_back : (x w : ℕ) → in_range w ≡ true → word_of (item_from x (w / 4096)) (w % 4096) ≡ w
word_back x w e =
    let r = range-parts w e in
    ap (λ (c : Content). pack_of (record { next = w % 4096; content = c; dead = eqb (w / 4096 / 4 % 2) 1; added = eqb (w / 4096 / 8 % 2) 1; gone = eqb (w / 4096 / 16 % 2) 1 })) (content-back (unpack_of w).content)
    ∙ pack-unpack w r.0 r.1

-- whatever a word says can be packed
pub item-holds : (x w : ℕ) → Holds (item_from x (w / 4096))
item-holds x w =
    let q = w / 4096 in
    let f = fitting_from (q % 4) (q / 32 % 4294967296) (omega arith) in
    rw (content-back (content_from (q % 4) (q / 32 % 4294967296))) f

pub chain-holds : (f : ℕ) (m : List ℕ) (s : ℕ) → AllHold (chain f m s)
unfolding chain
chain-holds zero m s = tt
chain-holds (suc f) m s = (item-holds s (get_or m s 0), chain-holds f m (next_at m s))

-- ---- every word of a walk
pub each-parts : (ok : ℕ → Bool) (f : ℕ) (m : List ℕ) (s : ℕ) → each_ok ok (suc f) m s ≡ true → (ok (get_or m s 0) ≡ true) × (each_ok ok f m (next_at m s) ≡ true)
unfolding each_ok
each-parts ok f m s e = (and_left (ok (get_or m s 0)) _ e, and_right (ok (get_or m s 0)) _ e)

-- a weaker test
pub each_more : (ok ok' : ℕ → Bool) → ((w : ℕ) → ok w ≡ true → ok' w ≡ true) → (f : ℕ) (m : List ℕ) (s : ℕ) → each_ok ok f m s ≡ true → each_ok ok' f m s ≡ true
unfolding each_ok
each_more ok ok' h zero m s e = refl
each_more ok ok' h (suc f) m s e =
    let p = each-parts ok f m s e in
    both (ok' (get_or m s 0)) _ (h (get_or m s 0) p.0) (each_more ok ok' h f m (next_at m s) p.1)

-- by number: a test that every word below b passes
pub each_all : (ok : ℕ → Bool) (b f : ℕ) (m : List ℕ) (s : ℕ) → ((j : ℕ) → j < b → ok (get_or m j 0) ≡ true) → walks b f m s ≡ true → each_ok ok f m s ≡ true
unfolding each_ok
each_all ok b zero m s h p = refl
each_all ok b (suc f) m s h p =
    let q = walks_parts b f m s p in
    both (ok (get_or m s 0)) _ (h s q.0) (each_all ok b f m (next_at m s) h q.1)

-- and the other way: one that is met
pub each_at : (ok : ℕ → Bool) (f : ℕ) (m : List ℕ) (s j : ℕ) → each_ok ok f m s ≡ true → 0 < occurs j (chain f m s) → ok (get_or m j 0) ≡ true
unfolding chain
each_at ok zero m s j e h = absurd (omega arith)
each_at ok (suc f) m s j e h = go (eqb j s) refl (λ h'. each_at ok f m (next_at m s) j (each-parts ok f m s e).1 h') h
  where
    go : (t : Bool) → eqb j s ≡ t → (0 < occurs j (chain f m (next_at m s)) → ok (get_or m j 0) ≡ true) → 0 < cond t 1 0 + occurs j (chain f m (next_at m s)) → ok (get_or m j 0) ≡ true
    go true q ih h = ap (λ (x : ℕ). ok (get_or m x 0)) (eqb-true j s q) ∙ (each-parts ok f m s e).0
    go false q ih h = ih (omega arith)

pub keep-each : (ok : ℕ → Bool) (f : ℕ) (m : List ℕ) (s x w : ℕ) → Off x (chain f m s) → each_ok ok f (set m x w) s ≡ each_ok ok f m s
unfolding chain each_ok
keep-each ok zero m s x w o = refl
keep-each ok (suc f) m s x w o =
    let e : get_or (set m x w) s 0 ≡ get_or m s 0 = get_or-set_other m x s w 0 (λ (q : s ≡ x). o.0 (sym q)) in
    rw (e, keep-each ok f m (next_at m s) x w o.1)

-- ---- stored
pub length-stored : (l : List Item) (m : List ℕ) → length (stored l m) ≡ length m
unfolding stored
length-stored [] m = refl
length-stored (i ∷ l) m = length-set (stored l m) i.num _ ∙ length-stored l m

-- a word whose number is not in the list
pub stored_off : (l : List Item) (m : List ℕ) (x : ℕ) → Off x l → get_or (stored l m) x 0 ≡ get_or m x 0
unfolding stored
stored_off [] m x o = refl
stored_off (i ∷ l) m x o = get_or-set_other (stored l m) i.num x _ 0 o.0 ∙ stored_off l m x o.1

-- a word whose number is: what stood there before does not count
pub stored_on : (l : List Item) (m m' : List ℕ) (x : ℕ) → x < length m → x < length m' → 0 < occurs x l → get_or (stored l m) x 0 ≡ get_or (stored l m') x 0
unfolding stored
stored_on [] m m' x a b h = absurd (omega arith)
stored_on (i ∷ l) m m' x a b h = go (eqb x i.num) refl (λ h'. stored_on l m m' x a b h') h
  where
    w : ℕ
    w = word_of i (head_or l)

    go : (t : Bool) → eqb x i.num ≡ t → (0 < occurs x l → get_or (stored l m) x 0 ≡ get_or (stored l m') x 0) → 0 < cond t 1 0 + occurs x l
        → get_or (set (stored l m) i.num w) x 0 ≡ get_or (set (stored l m') i.num w) x 0
    go true e ih h =
        let q = eqb-true x i.num e in
        let y : get_or (set (stored l m) x w) x 0 ≡ w = get_or-set_same (stored l m) x w 0 (omega (arith, length-stored l m)) in
        let z : get_or (set (stored l m') x w) x 0 ≡ w = get_or-set_same (stored l m') x w 0 (omega (arith, length-stored l m')) in
        rw (← q) (y ∙ sym z)
    go false e ih h =
        let d = eqb-false x i.num e in
        get_or-set_other (stored l m) i.num x w 0 d ∙ ih (omega arith) ∙ sym (get_or-set_other (stored l m') i.num x w 0 d)

-- Storing what lies there changes nothing.
pub stored_same : (b f : ℕ) (m : List ℕ) (s : ℕ) → b ≤ END → walks b f m s ≡ true → each_ok in_range f m s ≡ true → stored (chain f m s) m ≡ m
unfolding stored chain
stored_same b zero m s few p e = refl
stored_same b (suc f) m s few p e =
    let q = walks_parts b f m s p in
    let r = each-parts in_range f m s e in
    ap₂ (λ (k : List ℕ) (n : ℕ). set k s (word_of (item_at m s) n)) (stored_same b f m (next_at m s) few q.1 r.1) (head-is b m few f (next_at m s) q.1)
    ∙ ap (set m s) (word_back s (get_or m s 0) r.0)
    ∙ set-get_or m s 0

-- What was stored is what the links give.
pub record Lying (b : ℕ) (l : List Item) (m : List ℕ) : Type 0 where
  pub walk : walks b (length l) m (head_or l) ≡ true
  pub list : chain (length l) m (head_or l) ≡ l
  pub range : each_ok in_range (length l) m (head_or l) ≡ true

pub stored-lies : (b : ℕ) (l : List Item) (m : List ℕ) → b ≤ END → b ≤ length m → Distinct l → AllBelow b l → AllHold l → Lying b l (stored l m)
unfolding stored chain walks each_ok head_or
stored-lies b [] m few room d a h = record { walk = refl; list = refl; range = refl }
stored-lies b (i ∷ l) m few room d a h =
    let r = stored-lies b l m few room d.1 a.1 h.1 in
    let n = head_or l in
    let x = i.num in
    let w = word_of i n in
    let link : n < 4096 = omega (arith, head-le b l few a.1) in
    let e : get_or (set (stored l m) x w) x 0 ≡ w = get_or-set_same (stored l m) x w 0 (omega (arith, a.0, length-stored l m)) in
    let f : get_or (set (stored l m) x w) x 0 % 4096 ≡ n = ap (λ (y : ℕ). y % 4096) e ∙ word_next i n link in
    let o : Off x (chain (length l) (stored l m) n) = rw r.list d.0 in
    record {
      walk = rw (lt-ltb x b a.0, f) (keep_walks b (length l) (stored l m) n x w o ∙ r.walk);
      list = ap₂ ◌∷◌ (ap (λ (y : ℕ). item_from x (y / 4096)) e ∙ word-item i n link x h.0) (ap (chain (length l) (set (stored l m) x w)) f ∙ keep (length l) (stored l m) n x w o ∙ r.list);
      range = both (in_range (get_or (set (stored l m) x w) x 0)) _ (ap in_range e ∙ word-range i n link h.0) (ap (each_ok in_range (length l) (set (stored l m) x w)) f ∙ keep-each in_range (length l) (stored l m) n x w o ∙ r.range);
    }

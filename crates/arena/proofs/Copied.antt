-- A copy holds the same list, and the words of a list are settled by it. Assumes nothing.
use Prim.Native.Nat.{ℕ, zero, suc, ◌+◌, ◌<◌, ◌≤◌}
use native.Mathlib.Omega.{arith}
use mathlib.Core.Path.{◌≡◌, refl, sym, ap, ap₂, subst⁻¹, ◌∙◌}
use mathlib.Core.Bool.{true}
use mathlib.Core.List.{List, ◌∷◌, ◌++◌}
use lib.ListN.{length, get_or, take, drop, length-append, length-drop, get_or-append}
use lib.Seq.{length-take-le, get_or-take}
use borrow.Author.Tests.{lt-ltb}
use Rattle.rules.specs.Sheet as Sheet
use Rattle.layout.specs.declared.head.Head.{Head}
use Rattle.layout.specs.declared.word.Content.{Content}
use Rattle.layout.specs.declared.word.Content.TheVariants.{Text, Embed, Mark}
use Rattle.layout.specs.Word.{what_of, unpack_of, pack_of}
use Rattle.layout.specs.Chain.{item_at, next_at, chain, walks, head_or}
use Rattle.layout.proofs.Links.{walks_parts}
use Rattle.layout.proofs.Writes.{after_is, item-is}
use Rattle.arena.specs.Places.{SIZE, Neat, Arena, list_of}
use Rattle.arena.specs.Writes.{copied, content_of, word_of}
use Rattle.arena.proofs.Neat.{neat-word}

-- ---- the words copied
module _ (n : ℕ) (s d : List ℕ) (hs : n ≤ length s) (hd : n ≤ length d) where
  pub length-copied : length (copied n s d) ≡ length d
  length-copied = length-append (take n s) (drop n d) ∙ ap₂ ◌+◌ (length-take-le n s hs) (length-drop n d) ∙ omega arith

  copied-word : (j : ℕ) → j < n → get_or (copied n s d) j 0 ≡ get_or s j 0
  copied-word j h =
      let l : j < length (take n s) = rw (length-take-le n s hs) h in
      get_or-append (take n s) (drop n d) 0 j l ∙ get_or-take n s j 0 h

-- ---- buffers that agree below a bound hold the same list
agree : (b f : ℕ) (m k : List ℕ) (s : ℕ) → ((j : ℕ) → j < b → get_or k j 0 ≡ get_or m j 0) → walks b f m s ≡ true → (walks b f k s ≡ true) × (chain f k s ≡ chain f m s)
unfolding walks chain
agree b zero m k s e p = (p, refl)
agree b (suc f) m k s e p =
    let q = walks_parts b f m s p in
    let i = agree b f m k (next_at m s) e q.1 in
    rw (e s q.0, lt-ltb s b q.0) (i.0, ap (λ (ys : List Sheet.Item). item_at m s ∷ ys) i.1)

-- what a copy keeps: of a sheet's words in a working copy, or of a working copy in a sheet's words
pub record Kept (h : Head) (from to : List ℕ) : Type 0 where
  pub long : length (copied h.items from to) ≡ length to
  pub walk : walks h.items h.items (copied h.items from to) h.first ≡ true
  pub list : list_of h (copied h.items from to) ≡ list_of h from
  pub neat : (n : ℕ) → n < h.items → Neat (get_or (copied h.items from to) n 0)

pub copy-keeps : (h : Head) (from to : List ℕ) → h.items ≤ length from → h.items ≤ length to → walks h.items h.items from h.first ≡ true → ((n : ℕ) → n < h.items → Neat (get_or from n 0)) → Kept h from to
copy-keeps h from to hs hd p t =
    let n = h.items in
    let w = copied-word n from to hs hd in
    let a = agree n n from (copied n from to) h.first w p in
    record { long = length-copied n from to hs hd; walk = a.0; list = a.1; neat = λ j l. subst⁻¹ Neat (w j l) (t j l) }

pub load-arena : (h : Head) (from to : List ℕ) → length to ≡ SIZE → h.items ≤ SIZE → Kept h from to → Arena h (copied h.items from to)
load-arena h from to l few k = record { long = k.long ∙ l; few = few; walk = k.walk; neat = k.neat }

-- ---- the word of each item of the list
content-back : (c : Content) → content_of (what_of c) ≡ c
content-back (Text s l) = refl
content-back (Embed n) = refl
content-back (Mark k v) = refl

pub word-is : (h : Head) (m : List ℕ) → Arena h m → (L : List Sheet.Item) (x : Sheet.Item) (R : List Sheet.Item) → list_of h m ≡ L ++ x ∷ R → get_or m x.num 0 ≡ word_of x (head_or R)
word-is h m a L x R e =
    let n = h.items in
    let q = after_is n n m h.first L x R (omega (arith, a.few)) a.walk e in
    let w = get_or m x.num 0 in
    let it = unpack_of w in
    let back : word_of (item_at m x.num) it.next ≡ pack_of it = ap (λ (c : Content). pack_of (record { next = it.next; content = c; dead = it.dead; added = it.added; gone = it.gone })) (content-back it.content) in
    sym (neat-word w (a.neat x.num q.1)) ∙ sym back ∙ ap₂ word_of (item-is n m h.first L x R e) (sym q.0)

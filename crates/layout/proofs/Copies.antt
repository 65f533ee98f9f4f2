-- Storing by copying: a working buffer's words written over a sheet's, and a list stored over another. Assumes nothing.
use Prim.Native.Nat.{ℕ, ◌+◌, ◌-◌, ◌<◌, ◌≤◌}
use native.Mathlib.Omega.{arith}
use mathlib.Core.Path.{◌≡◌, refl, sym, ap, ◌∙◌}
use mathlib.Core.Bool.{Bool, true, false}
use mathlib.Core.List.{List, ◌++◌}
use lib.ListN.{length, get_or, take, drop, length-append, length-drop, get_or-append}
use lib.Seq.{get_or-take, get_or-drop, get_or-append-add, length-take-le, ext_get_or, drop-append-add, drop-drop}
use lib.Dec.{ltb}
use borrow.Author.Tests.{ltb-true, ltb-false}
use Rattle.rules.specs.Sheet.{Item}
use Rattle.layout.specs.Word.{in_range}
use Rattle.layout.specs.Chain.{END, chain, walks}
use Rattle.layout.specs.Memory.{each_ok, stored, stored_units}
use Rattle.layout.proofs.Links.{Off, distinct, length-chain}
use Rattle.layout.proofs.Numbers.{Once, below_yes, below_no, none_off, once, walk-below}
use Rattle.layout.proofs.Stored.{length-stored, stored_off, stored_on, stored_same}

-- ---- a working copy written back
-- A buffer whose first n words are the list's, over a buffer of the sheet.
pub copy-back : (l : List Item) (n : ℕ) (m m' : List ℕ) → n ≤ length m → n ≤ length m' → Once l n → stored l m' ≡ m' → take n m' ++ drop n m ≡ stored l m
copy-back l n m m' a b o e = ext_get_or 0 (take n m' ++ drop n m) (stored l m) (long ∙ sym (length-stored l m)) (λ i h. at i (omega (arith, long)) (ltb i n) refl)
  where
    front : length (take n m') ≡ n
    front = length-take-le n m' b

    long : length (take n m' ++ drop n m) ≡ length m
    long = omega (arith, length-append (take n m') (drop n m), front, length-drop n m)

    at : (i : ℕ) → i < length m → (t : Bool) → ltb i n ≡ t → get_or (take n m' ++ drop n m) i 0 ≡ get_or (stored l m) i 0
    at i h true q =
        let k = ltb-true i n q in
        get_or-append (take n m') (drop n m) 0 i (omega (arith, front))
        ∙ get_or-take n m' i 0 k
        ∙ ap (λ (x : List ℕ). get_or x i 0) (sym e)
        ∙ sym (stored_on l m m' i h (omega arith) (omega (arith, o i, below_yes i n k)))
    at i h false q =
        let k = ltb-false i n q in
        let s : length (take n m') + (i - n) ≡ i = omega (arith, front) in
        let t : n + (i - n) ≡ i = omega arith in
        ap (λ (x : ℕ). get_or (take n m' ++ drop n m) x 0) (sym s)
        ∙ get_or-append-add (take n m') (drop n m) (i - n) 0
        ∙ get_or-drop n m (i - n) 0
        ∙ ap (λ (x : ℕ). get_or m x 0) t
        ∙ sym (stored_off l m i (none_off i l (o i ∙ below_no i n k)))

-- the same of a working buffer whose links are sound and whose words are in their range
pub walk-once : (b : ℕ) (m : List ℕ) (s : ℕ) → b ≤ END → walks b b m s ≡ true → Once (chain b m s) b
walk-once b m s few p = once b (chain b m s) (distinct b m few b s p) (walk-below b b m s p) (length-chain b m s)

pub copy-chain : (b : ℕ) (m m' : List ℕ) (s : ℕ) → b ≤ END → b ≤ length m → b ≤ length m' → walks b b m' s ≡ true → each_ok in_range b m' s ≡ true → take b m' ++ drop b m ≡ stored (chain b m' s) m
copy-chain b m m' s few room room' p e = copy-back (chain b m' s) b m m' room room' (walk-once b m' s few p) (stored_same b b m' s few p e)

-- ---- stored twice
-- What a longer list is stored over does not count.
pub stored_again : (l l' : List Item) (n n' : ℕ) (m : List ℕ) → n ≤ n' → n' ≤ length m → Once l n → Once l' n' → stored l' (stored l m) ≡ stored l' m
stored_again l l' n n' m h room o o' = ext_get_or 0 (stored l' (stored l m)) (stored l' m) (long ∙ sym (length-stored l' m)) (λ i k. at i (ltb i n') refl)
  where
    long : length (stored l' (stored l m)) ≡ length m
    long = length-stored l' (stored l m) ∙ length-stored l m

    at : (i : ℕ) (t : Bool) → ltb i n' ≡ t → get_or (stored l' (stored l m)) i 0 ≡ get_or (stored l' m) i 0
    at i true q =
        let k = ltb-true i n' q in
        stored_on l' (stored l m) m i (omega (arith, length-stored l m)) (omega arith) (omega (arith, o' i, below_yes i n' k))
    at i false q =
        let k = ltb-false i n' q in
        let off : Off i l' = none_off i l' (o' i ∙ below_no i n' k) in
        stored_off l' (stored l m) i off ∙ stored_off l m i (none_off i l (o i ∙ below_no i n (omega arith))) ∙ sym (stored_off l' m i off)

pub units_again : (us us' u : List ℕ) → length us ≤ length us' → stored_units us' (stored_units us u) ≡ stored_units us' u
units_again us us' u h =
    let k = length us' - length us in
    let e : length us + k ≡ length us' = omega arith in
    ap (λ (x : List ℕ). us' ++ x) (
    ap (λ (n : ℕ). drop n (us ++ drop (length us) u)) (sym e) ∙ drop-append-add us (drop (length us) u) k ∙ drop-drop k (length us) u ∙ ap (λ (n : ℕ). drop n u) e
    )

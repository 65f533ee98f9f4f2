-- What every accepted call shows of any key, and how long the visible text is then.
use Prim.Native.Nat.{ℕ, ◌+◌, ◌-◌, ◌<◌, min}
use mathlib.Core.Path.{◌≡◌, refl, sym, ap, ◌∙◌}
use mathlib.Core.Logic.{◌↔◌}
use mathlib.Core.Bool.{Bool, true, false, cond}
use mathlib.Core.List.{List, [], ◌∷◌, ◌++◌, map, append-nil}
use native.Mathlib.Omega.{arith}
use lib.ListN.{length, length-append, length-map, length-take, length-drop, take, drop, take-append-drop}
use borrow.Author.Tests.{ltb-true, ltb-false, lt-ltb}
use Rattle.units.specs.Surrogates.{splits_pair}
use Rattle.sets.specs.Sets.{Set, none, keys, lay}
use Rattle.rules.specs.Sheet.{What, text, embed, Item, begin, width}
use Rattle.rules.specs.Reading.{live, force, pass_key, thing, units_of, glyphs, Cell, paint, shown, cells, lay_cell, seen_glyphs, visible, Op, insert, delete, retain, read}
use Rattle.rules.specs.Places.{At, whole, stay, and_then, place}
use Rattle.rules.specs.Delta.{Given, new_text, carry_out, spelt}
use Rattle.rules.specs.Calls.{Sheet, unit_at, too_long, bad_range, Body, words, object, Call, insert_text, insert_text_with, insert_embed, insert_embed_with, format_range, remove_range, apply_delta, begin_now, laid_out, call}
use Rattle.rules.specs.Rulings.{Within, seen, too_far, ruling, NoFault, on}
use Rattle.rules.specs.Shows.{inherited, put_at, next_units, shows, gains, losses, length_after}
use Rattle.laws.proofs.Lists.{In, zero_key, length-paint, length-units, length-glyphs}
use Rattle.laws.proofs.Format.{format-cells}
use Rattle.laws.proofs.Insert.{insert-cells, plain_text-cells, plain_embed-cells}
use Rattle.laws.proofs.Remove.{remove-cells}
use Rattle.laws.proofs.Delta.{delta-cells}
use Rattle.laws.proofs.Cuts.{in_cells, in-length}
use Rattle.laws.proofs.Plain.{place-inherits}
use Rattle.laws.proofs.Rulings.{faultless}
use Rattle.laws.proofs.Leads.{no-fault}
use Rattle.laws.proofs.Calls.{call_cases}

begin-cells : (j v : ℕ) (l : List Item) → cells live j v (begin l) ≡ cells live j v l
begin-cells j v [] = refl
begin-cells j v (i ∷ l) = ap (λ (x : List Cell). shown live i v ++ x) (begin-cells j (pass_key live j i v) l)

module _ (j : ℕ) (jk : In j keys) where
  put-nothing : (i : ℕ) (cs : List Cell) → cs ≡ put_at i [] cs
  put-nothing i cs = sym (ap (λ (x : List Cell). x ++ drop i cs) (append-nil (take i cs)) ∙ take-append-drop i cs)

  plainly : (i m : ℕ) (w : What) (l : List Item) → put_at i (paint (force live j 0 (place i l m).left) (glyphs w)) (cells live j 0 l) ≡ put_at i (paint (inherited j i l) (glyphs w)) (cells live j 0 l)
  plainly i m w l = ap (λ (v : ℕ). put_at i (paint v (glyphs w)) (cells live j 0 l)) (place-inherits j i l m)

  ruling-cells : (c : Call) (s : Sheet) → cells live j 0 (whole (ruling c s).place) ≡ shows j c s
  ruling-cells (insert_text i []) s = put-nothing i (cells live j 0 s.items)
  ruling-cells (insert_text i (u ∷ us)) s = plain_text-cells j i (text (length s.units) (length (u ∷ us))) s.items s.next refl ∙ plainly i s.next (text (length s.units) (length (u ∷ us))) s.items
  ruling-cells (insert_text_with i [] a) s = put-nothing i (cells live j 0 s.items)
  ruling-cells (insert_text_with i (u ∷ us) a) s = insert-cells j jk i (text (length s.units) (length (u ∷ us))) a s.items s.next refl
  ruling-cells (insert_embed i e) s = plain_embed-cells j i (embed e) s.items s.next refl ∙ plainly i s.next (embed e) s.items
  ruling-cells (insert_embed_with i e a) s = insert-cells j jk i (embed e) a s.items s.next refl
  ruling-cells (format_range i n a) s = format-cells j jk a i n s.items s.next
  ruling-cells (remove_range i n) s = remove-cells j i n s.items s.next
  ruling-cells (apply_delta ops) s = delta-cells j jk (laid_out (length s.units) ops) s.items s.next
  ruling-cells begin_now s = begin-cells j 0 s.items

  -- The cells after every accepted call.
  pub call-cells : (c : Call) (s : Sheet) → Within s → (call c s).refusal ≡ 0 → cells live j 0 (call c s).sheet.items ≡ shows j c s
  call-cells c s w = call_cases (λ o. o.refusal ≡ 0 → cells live j 0 o.sheet.items ≡ shows j c s) c s w (λ n h e. absurd (omega arith)) (λ e h q. ruling-cells c s)

-- Empty text is accepted at any index, and changes nothing.
pub empty-text : (i : ℕ) (s : Sheet) → call (insert_text i []) s ≡ record { refusal = 0; sheet = s }
empty-text i s = refl

pub empty-text-with : (i : ℕ) (a : Set) (s : Sheet) → call (insert_text_with i [] a) s ≡ record { refusal = 0; sheet = s }
empty-text-with i a s = refl

-- Removing nothing changes nothing, refused or not; it is refused only for its index.
pub zero_removal : (i : ℕ) (s : Sheet) → Within s → (call (remove_range i 0) s).sheet ≡ s
zero_removal i s w = call_cases (λ o. o.sheet ≡ s) (remove_range i 0) s w (λ n h. refl) (λ e h. refl)

-- In a delta, Deleted of 0 and an empty Inserted are passed over: nothing changes, nor the place.
nowhere : (p : At) → and_then none p (λ e l m. stay l m) ≡ p
nowhere p = ap (λ (x : List Item). record { left = x; right = p.right; next = p.next }) (append-nil p.left)

pub zero-deleted : (ops : List (Op Given)) (p : At) → carry_out (delete 0 ∷ ops) p ≡ carry_out ops p
zero-deleted ops p = ap (carry_out ops) (nowhere p)

pub empty-inserted : (s : ℕ) (a : Set) (ops : List (Op Given)) (p : At) → carry_out (insert (new_text s 0) a ∷ ops) p ≡ carry_out ops p
empty-inserted s a ops p = ap (carry_out ops) (nowhere p)

-- The visible length is the number of cells, of any key.
pub visible-cells : (j v : ℕ) (l : List Item) → length (cells live j v l) ≡ visible l
visible-cells j v [] = refl
visible-cells j v (i ∷ l) = go (live i.flags) (visible-cells j (pass_key live j i v) l)
  where
    go : (b : Bool) → length (cells live j (pass_key live j i v) l) ≡ visible l
        → length (cond b (paint v (glyphs i.what)) [] ++ cells live j (pass_key live j i v) l) ≡ cond b (width i.what) 0 + visible l
    go true e = omega (arith, length-append (paint v (glyphs i.what)) (cells live j (pass_key live j i v) l), length-paint v (glyphs i.what), length-glyphs i.what)
    go false e = omega arith

seen-visible : (l : List Item) → length (seen_glyphs l) ≡ visible l
seen-visible l = ap length (sym (in_cells 0 0 l)) ∙ in-length (cells live 0 0 l) ∙ visible-cells 0 0 l

pub length_seen : (s : Sheet) → length (seen s) ≡ visible s.items
length_seen s = length-map (seen_glyphs s.items) (unit_at s.units) ∙ seen-visible s.items

-- SHORT's reason, by the visible length
pub short_means : (i n : ℕ) (s : Sheet) → (too_far (remove_range i n) s ≡ true) ↔ (visible s.items - i < n)
short_means i n s = (λ h. omega (arith, ltb-true (length (seen s) - i) n h, length_seen s), λ h. lt-ltb (length (seen s) - i) n (omega (arith, length_seen s)))

put-length : (i : ℕ) (new cs : List Cell) → length (put_at i new cs) ≡ length cs + length new
put-length i new cs = omega (arith, length-append (take i cs ++ new) (drop i cs), length-append (take i cs) new, length-take i cs, length-drop i cs)

units-length : (v : ℕ) (s : Sheet) (us : List ℕ) → length (paint v (next_units s us)) ≡ length us
units-length v s us = length-paint v (next_units s us) ∙ length-units (length s.units) (length us)

delta-length : (us : List ℕ) (ops : List (Op Body)) (j m c : ℕ) (rest : List Cell) → NoFault us c ops → length rest ≡ length us - c
    → length (read j (map spelt (laid_out m ops)) rest) + losses ops ≡ length rest + gains ops
delta-length us [] j m c rest k e = refl
delta-length us (insert (words t) a ∷ ops) j m c rest (on q k) e =
    let more = read j (map spelt (laid_out (m + length t) ops)) rest in
    omega (arith, delta-length us ops j (m + length t) c rest k e, length-append (paint (lay (a j) 0) (units_of m (length t))) more, length-paint (lay (a j) 0) (units_of m (length t)), length-units m (length t))
delta-length us (insert (object x) a ∷ ops) j m c rest (on q k) e = omega (arith, delta-length us ops j m c rest k e)
delta-length us (delete n ∷ ops) j m c rest (on q k) e =
    let h = ltb-false (length us - c) n (no-fault false (splits_pair us (c + n)) (too_long us c n) q).2 in
    omega (arith, length-drop n rest, delta-length us ops j m (min (length us) (c + n)) (drop n rest) k (omega (arith, length-drop n rest)))
delta-length us (retain n a ∷ ops) j m c rest (on q k) e =
    let more = read j (map spelt (laid_out m ops)) (drop n rest) in
    omega (arith, length-append (map (lay_cell (a j)) (take n rest)) more, length-map (take n rest) (lay_cell (a j)), length-take n rest, length-drop n rest, delta-length us ops j m (min (length us) (c + n)) (drop n rest) k (omega (arith, length-drop n rest)))

shows-length : (j : ℕ) (c : Call) (s : Sheet) → (ruling c s).fault ≡ 0 → length (shows j c s) ≡ length_after c s
shows-length j (insert_text i us) s e = put-length i (paint (inherited j i s.items) (next_units s us)) (cells live j 0 s.items) ∙ omega (arith, units-length (inherited j i s.items) s us, visible-cells j 0 s.items)
shows-length j (insert_text_with i us a) s e = put-length i (paint (lay (a j) 0) (next_units s us)) (cells live j 0 s.items) ∙ omega (arith, units-length (lay (a j) 0) s us, visible-cells j 0 s.items)
shows-length j (insert_embed i x) s e = put-length i (paint (inherited j i s.items) (thing x ∷ [])) (cells live j 0 s.items) ∙ omega (arith, visible-cells j 0 s.items)
shows-length j (insert_embed_with i x a) s e = put-length i (paint (lay (a j) 0) (thing x ∷ [])) (cells live j 0 s.items) ∙ omega (arith, visible-cells j 0 s.items)
shows-length j (format_range i n a) s e =
    let cs = cells live j 0 s.items in
    omega (arith, length-append (take i cs ++ map (lay_cell (a j)) (take n (drop i cs))) (drop n (drop i cs)), length-append (take i cs) (map (lay_cell (a j)) (take n (drop i cs))), length-map (take n (drop i cs)) (lay_cell (a j)), length-take i cs, length-take n (drop i cs), length-drop i cs, length-drop n (drop i cs), visible-cells j 0 s.items)
shows-length j (remove_range i n) s e =
    let cs = cells live j 0 s.items in
    let h = ltb-false (length (seen s) - i) n (no-fault false (bad_range (seen s) i n) (too_long (seen s) i n) e).2 in
    omega (arith, length-append (take i cs) (drop n (drop i cs)), length-take i cs, length-drop i cs, length-drop n (drop i cs), visible-cells j 0 s.items, length_seen s)
shows-length j (apply_delta ops) s e = omega (arith, delta-length (seen s) ops j (length s.units) 0 (cells live j 0 s.items) ((faultless (seen s) 0 ops).0 e) (omega (arith, visible-cells j 0 s.items, length_seen s)), visible-cells j 0 s.items)
shows-length j begin_now s e = visible-cells j 0 s.items

-- The visible length after every accepted call.
pub call_length : (c : Call) (s : Sheet) → Within s → (call c s).refusal ≡ 0 → visible (call c s).sheet.items ≡ length_after c s
call_length c s w = call_cases (λ o. o.refusal ≡ 0 → visible o.sheet.items ≡ length_after c s) c s w (λ n h e. absurd (omega arith))
    (λ e h q. sym (visible-cells 0 0 (whole (ruling c s).place)) ∙ ap length (ruling-cells 0 zero_key c s) ∙ shows-length 0 c s e)

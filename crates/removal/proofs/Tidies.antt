-- Tidying in two walks, the second with the place kept, is the rule's Tidy. Assumes nothing.
use Prim.Native.Nat.{ℕ, zero, suc, ◌+◌, ◌-◌, ◌≤◌}
use native.Mathlib.Omega.{arith}
use mathlib.Core.Path.{◌≡◌, refl, sym, ap, ap₂, ◌∙◌}
use mathlib.Core.Bool.{Bool, true, false, cond, not, ◌&&◌, ◌||◌}
use mathlib.Core.List.{List, [], ◌∷◌, ◌++◌, map, append_assoc, append-nil}
use lib.Dec.{leb}
use lib.ListN.{length, take, drop, length-append}
use lib.Seq.{take_at, drop_at, take-add, drop-drop}
use Rattle.sets.specs.Sets.{Env, none}
use Rattle.attrs.specs.Packed.{env_of}
use Rattle.rules.specs.Sheet.{Item, dead, kill, width, is_mark}
use Rattle.rules.specs.Places.{At, whole, over, after, and_then, split}
use Rattle.rules.specs.Edits.{kill_units, to_end, idle, tidy_item, tidy}
use Rattle.laws.proofs.Remove.{end_whole}
use Rattle.layout.specs.declared.head.Head.{Head}
use Rattle.layout.specs.Chain.{head_or}
use Rattle.arena.specs.declared.Place.{Place}
use Rattle.arena.specs.Places.{list_of, left_of, right_of, kept_place, Standing, Carried, in_turn}
use Rattle.arena.proofs.Carried.{after-append, carried-then, carried-as}
use Rattle.arena.proofs.Forces.{force_env}
use Rattle.arena.proofs.Standing.{Stands, length-right}
use Rattle.arena.proofs.Steps.{carry}
use Rattle.arena.proofs.Walks.{kept-stands}
use Rattle.removal.specs.Tidies.{deleting, ending, tidy_first, tidy_ahead, tidying, delete_tidy}

-- ---- what stands first keeps its number
kill-head : (n : ℕ) (l : List Item) (m : ℕ) → head_or l ≡ head_or (whole (kill_units n l m))
unfolding head_or
kill-head n [] m = refl
kill-head zero (i ∷ l) m = refl
kill-head (suc n) (i ∷ l) m = go (dead i || is_mark i.what) (leb (width i.what) (suc n)) (kill_units (suc n) l m) (kill_units (suc n - width i.what) l m)
  where
    go : (b c : Bool) (p q : At) → i.num ≡ head_or (whole (cond b (over i p) (cond c (over (kill i) q) (record { left = map kill (split (suc n) i l m).left; right = (split (suc n) i l m).right; next = suc m }))))
    go true c p q = refl
    go false true p q = refl
    go false false p q = refl

tidy-head : (k : ℕ) (s e : Env) (l : List Item) → head_or l ≡ head_or (map (tidy_item s e) (take k l) ++ drop k l)
unfolding head_or
tidy-head zero s e l = refl
tidy-head (suc k) s e [] = refl
tidy-head (suc k) s e (i ∷ l) = go (not (dead i) && idle s e i.what)
  where
    go : (b : Bool) → i.num ≡ (cond b (kill i) i).num
    go true = refl
    go false = refl

-- ---- the rule
two-walks : (s e : Env) (k j : ℕ) (l : List Item) (m : ℕ) → e ≡ after s (take k l ++ (to_end (drop k l) m).left) → length (to_end (drop k l) m).left ≡ j
    → in_turn (tidy_first k s e) (tidy_ahead j s e) s l m ≡ tidying k s l m
two-walks s e k j l m ee ej =
    let q = to_end (drop k l) m in
    let w : drop k l ≡ q.left ++ q.right = sym (end_whole (drop k l) m) in
    let t : take j (drop k l) ≡ q.left = ap (take j) w ∙ take_at q.left q.right j ej in
    let d : drop j (drop k l) ≡ q.right = ap (drop j) w ∙ drop_at q.left q.right j ej in
    let A : At = record { left = map (tidy_item s e) (take k l) ++ []; right = map (tidy_item s e) (take j (drop k l)) ++ drop j (drop k l); next = m } in
    let B : At = record { left = map (tidy_item s e) (take k l); right = map (tidy_item s e) q.left ++ q.right; next = m } in
    let same : A ≡ B = λ i. record { left = append-nil (map (tidy_item s e) (take k l)) i; right = map (tidy_item s e) (t i) ++ d i; next = m } in
    same ∙ ap (λ (x : Env). record { left = map (tidy_item s x) (take k l); right = map (tidy_item s x) q.left ++ q.right; next = m }) ee

from_start : (e : Env) (x : At) (k n : ℕ) → length x.left ≡ k → n ≡ x.next → tidying k e (whole x) n ≡ tidy e x
from_start e x k n ek en =
    let f : List Item → List Item → ℕ → At = λ a b i. tidy e (record { left = a; right = b; next = i }) in
    λ i. f (take_at x.left x.right k ek i) (drop_at x.left x.right k ek i) (en i)

-- ---- the place stays, and what is right of it is tidied
tidied-ahead : {h : Head} {m : List ℕ} {p : Place} → Standing h m p → (k : ℕ) (a b : Env) {m₁ : List ℕ} {q : Place} → Carried (tidy_first k a b) h m p h m₁ q → Carried (tidy_ahead k a b) h m p h m₁ p
tidied-ahead {h} {m} {p} s k a b c =
    let R = right_of h m p in
    let t : p.todo ≡ h.items - (h.items - p.todo) = omega (arith, s.todo) in
    let same : p ≡ kept_place p h h = ap (λ (n : ℕ). record { left = p.left; right = p.right; todo = n; force = p.force }) t in
    let st = kept-stands s c (s.right ∙ tidy-head k a b R) p same in
    carry (tidy_ahead k a b) R refl st (sym (append-nil (left_of h m p))) refl refl refl

-- ---- a later place: what lies between
module _ {h : Head} {m : List ℕ} {p : Place} (s : Standing h m p) {q : Place} (t : Standing h m q) (le : q.todo ≤ p.todo) where
  later : h.items - q.todo ≡ (h.items - p.todo) + (p.todo - q.todo)
  later = omega (arith, s.todo, t.todo)

  later-left : left_of h m q ≡ left_of h m p ++ take (p.todo - q.todo) (right_of h m p)
  later-left = ap (λ (n : ℕ). take n (list_of h m)) later ∙ take-add (h.items - p.todo) (p.todo - q.todo) (list_of h m)

  later-right : right_of h m q ≡ drop (p.todo - q.todo) (right_of h m p)
  later-right = ap (λ (n : ℕ). drop n (list_of h m)) later ∙ sym (drop-drop (p.todo - q.todo) (h.items - p.todo) (list_of h m))

  -- Tidy, by its two walks
  pub gap-tidied : {e : Place} → Carried ending h m q h m e → {m₁ : List ℕ} {r : Place} → Carried (tidy_first (p.todo - q.todo) (env_of p.force) (env_of e.force)) h m p h m₁ r
      → {m₂ : List ℕ} {z : Place} → Carried (tidy_first (r.todo - e.todo) (env_of p.force) (env_of e.force)) h m₁ r h m₂ z
      → Carried (tidying (p.todo - q.todo)) h m p h m₂ r
  gap-tidied {e} c {m₁} {r} f {m₂} {z} g =
      let k = p.todo - q.todo in
      let j = r.todo - e.todo in
      let L = left_of h m p in
      let R = right_of h m p in
      let S = env_of p.force in
      let E = env_of e.force in
      let x = to_end (drop k R) h.items in
      let es : S ≡ after none L = force_env s in
      let xl : to_end (right_of h m q) h.items ≡ x = ap (λ (l : List Item). to_end l h.items) later-right in
      let le : left_of h m e ≡ L ++ (take k R ++ x.left) = ap (λ (a : At). a.left) c.moved ∙ ap₂ (λ (u v : List Item). u ++ v) later-left (ap (λ (a : At). a.left) xl) ∙ append_assoc L (take k R) x.left in
      let ee : E ≡ after (after none L) (take k R ++ x.left) = force_env c.stands ∙ ap (after none) le ∙ after-append none L (take k R ++ x.left) in
      let re : length x.right ≡ e.todo = ap length (sym (ap (λ (a : At). a.right) xl)) ∙ ap length (sym (ap (λ (a : At). a.right) c.moved)) ∙ length-right c.stands in
      let rr : length (drop k R) ≡ r.todo = ap length (sym (ap (λ (a : At). a.right) f.moved)) ∙ length-right f.stands in
      let lx : length x.left + length x.right ≡ length (drop k R) = sym (length-append x.left x.right) ∙ ap length (end_whole (drop k R) h.items) in
      let ej : length x.left ≡ j = omega arith in
      let both = carried-then f (tidied-ahead f.stands j S E g) in
      carried-as (tidying k) both (
      ap (λ (a : Env). in_turn (tidy_first k a E) (tidy_ahead j a E) (after none L) R h.items) es ∙ two-walks (after none L) E k j R h.items ee ej
      )

-- ---- the deletion, and then Tidy from where it began
module _ {h : Head} {m : List ℕ} {p : Place} (s : Standing h m p) (n : ℕ) {h₁ : Head} {m₁ : List ℕ} {q : Place} (c : Carried (deleting n) h m p h₁ m₁ q) (r : Place) (er : r ≡ kept_place p h h₁) where
  pub again : Stands h₁ m₁ r (left_of h m p) (whole (kill_units n (right_of h m p) h.items))
  again = kept-stands s c (s.right ∙ kill-head n (right_of h m p) h.items) r er

  between : length (kill_units n (right_of h m p) h.items).left + q.todo ≡ r.todo
  between =
      let x = kill_units n (right_of h m p) h.items in
      let b : length x.right ≡ q.todo = ap length (sym (ap (λ (a : At). a.right) c.moved)) ∙ length-right c.stands in
      let w : length (whole x) ≡ r.todo = ap length (sym (ap (λ (a : At). a.right) again.at)) ∙ length-right again.stands in
      omega (arith, length-append x.left x.right)

  pub stop-later : q.todo ≤ r.todo
  stop-later = omega (arith, between)

  pub deleted-tidied : {m₂ : List ℕ} {z : Place} → Carried (tidying (r.todo - q.todo)) h₁ m₁ r h₁ m₂ z → Carried (delete_tidy n) h m p h₁ m₂ z
  deleted-tidied {m₂} {z} d =
      let L = left_of h m p in
      let x = kill_units n (right_of h m p) h.items in
      let k = r.todo - q.todo in
      let ek : length x.left ≡ k = omega (arith, between) in
      let en : h₁.items ≡ x.next = ap (λ (a : At). a.next) c.moved in
      let y = from_start (after none L) x k h₁.items ek en in
      record {
        stands = d.stands;
        moved = d.moved ∙ ap (λ (a : At). and_then none a (tidying k)) again.at ∙ ap (λ (a : At). record { left = L ++ a.left; right = a.right; next = a.next }) y;
        units = d.units ∙ c.units;
      }

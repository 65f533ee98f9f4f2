-- Each primitive carries its move out. Assumes nothing.
use Prim.Native.Nat.{ℕ, suc, ◌+◌, ◌-◌, ◌<◌, ◌≤◌}
use native.Mathlib.Numerals.{add-one}
use native.Mathlib.Omega.{arith}
use mathlib.Core.Path.{◌≡◌, refl, sym, ap, ap₂, subst⁻¹, ◌∙◌}
use mathlib.Core.List.{List, [], ◌∷◌, ◌++◌, append_assoc, append-nil}
use mathlib.Core.Bool.{true, false}
use lib.ListN.{length, get_or, length-append}
use Rattle.attrs.specs.declared.Attrs.{Attrs}
use Rattle.sets.specs.Sets.{none}
use Rattle.rules.specs.Sheet.{Item, new, like, kill}
use Rattle.rules.specs.Places.{Move, after, and_then, left_half, right_half}
use Rattle.rules.specs.Edits.{put_new}
use Rattle.layout.specs.declared.head.Head.{Head}
use Rattle.layout.specs.declared.word.Content.{Content}
use Rattle.layout.specs.Word.{what_of, unpack_of}
use Rattle.layout.specs.Chain.{END, item_at, next_at, chain, head_or, last_or}
use Rattle.layout.proofs.Links.{length-chain, head-is, walks_next}
use Rattle.arena.specs.declared.Place.{Place}
use Rattle.arena.specs.Places.{SIZE, Linkable, Arena, list_of, left_of, right_of, Standing, Carried, Puttable, Cuttable, start_of, passed_force, forward_of, ahead, halving, killing, widened}
use Rattle.arena.specs.Writes.{Within, put_mem, put_head, cut_mem, cut_head, kill_mem}
use Rattle.arena.proofs.Standing.{parts, Stands, stand, item-here, here-is, neat-here, right_lt, right-walk, length-right}
use Rattle.arena.proofs.Carried.{carried-right}
use Rattle.arena.proofs.Forces.{force-past, force-none}
use Rattle.arena.proofs.Puts.{left_linkable, put_law}
use Rattle.arena.proofs.Cuts.{cut-halves, cut_law}
use Rattle.arena.proofs.Kills.{kill_law}

-- a move whose outcome is known
pub carry : (f : Move) {h : Head} {m : List ℕ} {p : Place} (r : List Item) → right_of h m p ≡ r → {g : Head} {j : List ℕ} {q : Place} {A B : List Item} → Stands g j q A B
    → A ≡ left_of h m p ++ (f (after none (left_of h m p)) r h.items).left → B ≡ (f (after none (left_of h m p)) r h.items).right → g.items ≡ (f (after none (left_of h m p)) r h.items).next
    → g.units ≡ h.units → Carried f h m p g j q
carry f {h} {m} {p} r e s ea eb en eu =
    let L = left_of h m p in
    record {
      stands = s.stands;
      moved = s.at ∙ (λ i. record { left = ea i; right = eb i; next = en i }) ∙ ap (λ (x : List Item). and_then none (record { left = L; right = x; next = h.items }) f) (sym e);
      units = eu;
    }

-- ---- split
pub split-carried : {h : Head} {m : List ℕ} {p : Place} {n : ℕ} → Cuttable h m p n → (g : Head) → g ≡ cut_head h → (j : List ℕ) → j ≡ cut_mem m h.items p.right n
    → Carried (halving n) h m p g j (widened p)
unfolding head_or
split-carried {h} {m} {p} {n} c g eg j ej =
    let s = c.stands in
    let x = item_at m p.right in
    let R = chain (p.todo - 1) m (next_at m p.right) in
    let L = left_of h m p in
    let e = item-here s c.more in
    let k = cut_law h m L x R n s.arena c.room (parts h m p ∙ ap (λ (ys : List Item). L ++ ys) e) c.some c.inside g eg j ej in
    let long : length R ≡ p.todo - 1 = length-chain (p.todo - 1) m (next_at m p.right) in
    let t : p.todo + 1 ≡ suc (suc (length R)) = omega (arith, c.more) in
    let B = like x x.num (left_half n x.what) ∷ like x h.items (right_half n x.what) ∷ R in
    let st = stand g j (widened p) L B k.0 k.1 t s.left refl s.force in
    carry (halving n) (x ∷ R) e st (sym (append-nil L)) refl (ap (λ (y : Head). y.items) eg ∙ add-one h.items) (ap (λ (y : Head). y.units) eg)

pub cut_asks : {h : Head} {m : List ℕ} {p : Place} {n : ℕ} → Cuttable h m p n → (h.items < SIZE) × (length m ≡ SIZE) × (p.right < SIZE) × Within n (unpack_of (get_or m p.right 0)).content
cut_asks {h} {m} {p} {n} c =
    let a = c.stands.arena in
    let l = right_lt c.stands c.more in
    (c.room, a.long, omega (arith, l.0, a.few), (cut-halves h m p.right n a l.0 c.some c.inside).within)

last_snoc : (d : ℕ) (L : List Item) (x : Item) → last_or d (L ++ x ∷ []) ≡ x.num
unfolding last_or
last_snoc d [] x = refl
last_snoc d (y ∷ L) x = last_snoc y.num L x

-- ---- the start
pub start-stands : {h : Head} {m : List ℕ} → Arena h m → Stands h m (start_of h) [] (list_of h m)
unfolding last_or
start-stands {h} {m} a =
    stand h m (start_of h) [] (list_of h m) a refl (sym (length-chain h.items m h.first)) refl (sym (head-is h.items m (omega (arith, a.few)) h.items h.first a.walk)) force-none

-- ---- forward
pub forward-carried : {h : Head} {m : List ℕ} {p : Place} → Standing h m p → 0 < p.todo → (q : Place) → q ≡ forward_of m p → Carried ahead h m p h m q
forward-carried {h} {m} {p} s more q eq =
    let x = item_at m p.right in
    let it = unpack_of (get_or m p.right 0) in
    let R = chain (p.todo - 1) m (next_at m p.right) in
    let L = left_of h m p in
    let e = item-here s more in
    let b : h.items ≤ END = omega (arith, s.arena.few) in
    let w = walks_next h.items p.todo m p.right more (right-walk s).0 in
    let f = ap (λ (a : Attrs). passed_force a it.dead it.content) s.force ∙ force-past L p.right it.content it.dead it.added it.gone (neat-here s more).range in
    let st = stand h m (forward_of m p) (L ++ x ∷ []) R s.arena (parts h m p ∙ ap (λ (ys : List Item). L ++ ys) e ∙ sym (append_assoc L (x ∷ []) R))
    (sym (length-chain (p.todo - 1) m (next_at m p.right))) (sym (last_snoc END L x)) (sym (head-is h.items m b (p.todo - 1) (next_at m p.right) w)) f in
    rw eq (carry ahead (x ∷ R) e st refl refl refl refl)

-- ---- put
abbrev pub put_place : Head → Place → Content → Place
put_place h p c = record { left = h.items; right = p.right; todo = p.todo; force = passed_force p.force false c }

pub put-carried : {h : Head} {m : List ℕ} {p : Place} {c : Content} → Puttable h m p c → (g : Head) → g ≡ put_head h p.left → (j : List ℕ) → j ≡ put_mem m h.items p.left p.right c
    → (q : Place) → q ≡ put_place h p c → Carried (put_new (what_of c)) h m p g j q
put-carried {h} {m} {p} {c} u g eg j ej q eq =
    let s = u.stands in
    let L = left_of h m p in
    let R = right_of h m p in
    let n = h.items in
    let x = new n (what_of c) in
    let a = put_law h m c L R s.arena u.room u.range (parts h m p) g (eg ∙ ap (put_head h) s.left) j (ej ∙ ap₂ (λ (i k : ℕ). put_mem m n i k c) s.left s.right) in
    let f = ap (λ (y : Attrs). passed_force y false c) s.force ∙ force-past L n c false true false u.range in
    let st = stand g j (put_place h p c) (L ++ x ∷ []) R a.0 (a.1 ∙ sym (append_assoc L (x ∷ []) R)) (sym (length-right s)) (sym (last_snoc END L x)) s.right f in
    rw eq (carry (put_new (what_of c)) R refl st refl refl (ap (λ (y : Head). y.items) eg) (ap (λ (y : Head). y.units) eg))

pub put_asks : {h : Head} {m : List ℕ} {p : Place} {c : Content} → Puttable h m p c → (h.items < SIZE) × (length m ≡ SIZE) × Linkable p.left
put_asks {h} {m} {p} u =
    let s = u.stands in
    (u.room, s.arena.long, subst⁻¹ Linkable s.left (left_linkable h m (left_of h m p) (right_of h m p) s.arena (parts h m p)))

-- ---- delete: an item met later, and the item right of the place
same_head : (A : List Item) (x : Item) (B : List Item) → head_or (A ++ x ∷ B) ≡ head_or (A ++ kill x ∷ B)
unfolding head_or
same_head [] x B = refl
same_head (y ∷ A) x B = refl

pub kill-later : {h : Head} {m : List ℕ} {p : Place} → Standing h m p → (A : List Item) (x : Item) (B : List Item) → right_of h m p ≡ A ++ x ∷ B → (k : List ℕ) → k ≡ kill_mem m x.num
    → Stands h k p (left_of h m p) (A ++ kill x ∷ B)
kill-later {h} {m} {p} s A x B e k ek =
    let L = left_of h m p in
    let whole : list_of h m ≡ (L ++ A) ++ x ∷ B = parts h m p ∙ ap (λ (ys : List Item). L ++ ys) e ∙ sym (append_assoc L A (x ∷ B)) in
    let a = kill_law h m (L ++ A) x B s.arena whole k ek in
    let t : p.todo ≡ length (A ++ kill x ∷ B) = sym (length-right s) ∙ ap length e ∙ length-append A (x ∷ B) ∙ sym (length-append A (kill x ∷ B)) in
    stand h k p L (A ++ kill x ∷ B) a.0 (a.1 ∙ append_assoc L A (kill x ∷ B)) t s.left (s.right ∙ ap head_or e ∙ same_head A x B) s.force

pub kill-carried : {h : Head} {m : List ℕ} {p : Place} → Standing h m p → 0 < p.todo → (k : List ℕ) → k ≡ kill_mem m p.right → Carried killing h m p h k p
kill-carried {h} {m} {p} s more k ek =
    let x = item_at m p.right in
    let R = chain (p.todo - 1) m (next_at m p.right) in
    let e = item-here s more in
    carry killing (x ∷ R) e (kill-later s [] x R e k ek) (sym (append-nil (left_of h m p))) refl refl refl

-- a place before a text that was cut has an item right of it
pub cut-more : {h : Head} {m : List ℕ} {p : Place} → Standing h m p → 0 < p.todo → {n : ℕ} {h₁ : Head} {m₁ : List ℕ} {p₁ : Place} → Carried (halving n) h m p h₁ m₁ p₁
    → (0 < p₁.todo) × (item_at m₁ p₁.right ≡ like (item_at m p.right) p.right (left_half n (item_at m p.right).what))
cut-more s more c = here-is c.stands _ _ (carried-right c _ (item-here s more))

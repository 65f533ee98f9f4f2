-- The operations of a delta one after the other: what is left to do from the place reached gives what there was to do at first. Assumes nothing.
use Prim.Native.Nat.{ℕ, zero, suc, ◌+◌, ◌<◌, ◌≤◌}
use native.Mathlib.Numerals.{add-one}
use native.Mathlib.Omega.{arith}
use mathlib.Core.Path.{◌≡◌, refl, sym, ap, subst, subst⁻¹, ◌∙◌}
use mathlib.Core.List.{List, [], ◌∷◌, map}
use lib.ListN.{length, get_or, drop, drop_of_length-le}
use lib.Seq.{drop-cons, length-take-le, get_or-take}
use Rattle.sets.specs.Sets.{Set}
use Rattle.attrs.specs.Packed.{says}
use Rattle.rules.specs.Sheet.{text, embed}
use Rattle.rules.specs.Places.{At, whole}
use Rattle.rules.specs.Edits.{insert_with}
use Rattle.rules.specs.Delta.{new_text, new_embed, insert_here, carry_out}
use Rattle.laws.proofs.Makes.{carry-longer}
use Rattle.layout.specs.declared.head.Head.{Head}
use Rattle.layout.proofs.Links.{length-chain}
use Rattle.arena.specs.declared.Place.{Place}
use Rattle.arena.specs.Places.{placed, Standing, Carried}
use Rattle.arena.proofs.Carried.{carried-stay, carried-as}
use Rattle.arena.proofs.Standing.{parts}
use Rattle.ops.specs.declared.delta.Inserted.{Inserted}
use Rattle.ops.specs.declared.delta.Inserted.TheVariants.{Text}
use Rattle.ops.specs.declared.delta.Op.{Op}
use Rattle.ops.specs.declared.delta.Op.TheVariants.{Insert}
use Rattle.ops.specs.declared.delta.DeltaOp.{DeltaOp}
use Rattle.ops.specs.declared.delta.Delta.{Delta}
use Rattle.changes.specs.Frame.{Tried}
use Rattle.carrying.specs.Turns.{given_at, held_by, brings, rule_of, laid, bringing, given}

-- ---- one operation
module _ {h : Head} {m : List ℕ} {p : Place} where
  pub text-none : Standing h m p → (s n : ℕ) (a : Set) → n ≡ 0 → Carried (insert_here (new_text s n) a) h m p h m p
  text-none st s zero a z = carried-as (insert_here (new_text s zero) a) (carried-stay st) refl
  text-none st s (suc n) a z = absurd (omega arith)

  module _ {h₁ : Head} {m₁ : List ℕ} {p₁ : Place} where
    pub text-some : (s n : ℕ) (a : Set) → (n ≡ 0 → ⊥) → Carried (insert_with (text s n) a) h m p h₁ m₁ p₁ → Carried (insert_here (new_text s n) a) h m p h₁ m₁ p₁
    text-some s zero a some c = absurd (some refl)
    text-some s (suc n) a some c = carried-as (insert_here (new_text s (suc n)) a) c refl

    pub embed-put : (e : ℕ) (a : Set) → Carried (insert_with (embed e) a) h m p h₁ m₁ p₁ → Carried (insert_here (new_embed e) a) h m p h₁ m₁ p₁
    embed-put e a c = carried-as (insert_here (new_embed e) a) c refl

    -- the rule of a part, and of an operation, that is known
    pub by_part : {c d : Inserted} (u : ℕ) (a : Set) → c ≡ d → Carried (insert_here (given_at u d) a) h m p h₁ m₁ p₁ → Carried (insert_here (given_at u c) a) h m p h₁ m₁ p₁
    by_part u a e k = subst⁻¹ (λ (x : Inserted). Carried (insert_here (given_at u x) a) h m p h₁ m₁ p₁) e k

    pub by-op : {c d : Op} (u : ℕ) (a : Set) → c ≡ d → Carried (rule_of u a d) h m p h₁ m₁ p₁ → Carried (rule_of u a c) h m p h₁ m₁ p₁
    by-op u a e k = subst⁻¹ (λ (x : Op). Carried (rule_of u a x) h m p h₁ m₁ p₁) e k

pub part_room : {c d : Inserted} (u : ℕ) → c ≡ d → u + held_by c ≤ 16384 → u + held_by d ≤ 16384
part_room u e r = subst (λ (x : Inserted). u + held_by x ≤ 16384) e r

pub op_room : {c d : Op} (u : ℕ) → c ≡ d → u + brings c ≤ 16384 → u + brings d ≤ 16384
op_room u e r = subst (λ (x : Op). u + brings x ≤ 16384) e r

-- ---- on the way
pub record Under (ds : List DeltaOp) (goal : At) (i used : ℕ) (h : Head) (m : List ℕ) (p : Place) : Type 0 where
  pub few : h.items ≤ 2048
  pub stands : Standing h m p
  pub room : used + bringing (drop i ds) ≤ 16384
  pub rest : carry_out (laid used (drop i ds)) (placed h m p) ≡ goal

pub under-start : (ds : List DeltaOp) (used : ℕ) (h : Head) (m : List ℕ) (p : Place) → Standing h m p → h.items ≤ 2048 → used + bringing ds ≤ 16384
    → Under ds (carry_out (laid used ds) (placed h m p)) 0 used h m p
under-start ds used h m p s f r = record { few = f; stands = s; room = r; rest = refl }

-- how long the list is in a working copy
placed-length : (h : Head) (m : List ℕ) (p : Place) → length (whole (placed h m p)) ≡ h.items
placed-length h m p = ap length (sym (parts h m p)) ∙ length-chain h.items m h.first

module _ {ds : List DeltaOp} {goal : At} {i used : ℕ} {h : Head} {m : List ℕ} {p : Place} (o : Under ds goal i used h m p) where
  -- the next operation
  module _ (d : DeltaOp) (is : drop i ds ≡ d ∷ drop (suc i) ds) where
    pub next-room : used + brings d.op + bringing (drop (suc i) ds) ≤ 16384
    unfolding bringing
    next-room = omega (arith, o.room, ap bringing is)

    module _ {h₁ : Head} {m₁ : List ℕ} {p₁ : Place} (c : Carried (rule_of used (says d.attrs) d.op) h m p h₁ m₁ p₁) where
      next-rest : carry_out (laid (used + brings d.op) (drop (suc i) ds)) (placed h₁ m₁ p₁) ≡ goal
      unfolding rule_of laid
      next-rest =
          ap (carry_out (laid (used + brings d.op) (drop (suc i) ds))) c.moved
          ∙ ap (λ (l : List DeltaOp). carry_out (laid used l) (placed h m p)) (sym is)
          ∙ o.rest

      pub under_next : h₁.items ≤ 2048 → (u : ℕ) → u ≡ used + brings d.op → Under ds goal (i + 1) u h₁ m₁ p₁
      under_next f u e =
          subst⁻¹ (λ (k : ℕ). Under ds goal k u h₁ m₁ p₁) (add-one i)
          (subst⁻¹ (λ (k : ℕ). Under ds goal (suc i) k h₁ m₁ p₁) e (record { few = f; stands = c.stands; room = next-room; rest = next-rest }))

      -- too long here is too long in the end
      pub under-long : 2048 < h₁.items → Tried goal h₁ m₁
      under-long l =
          let more : 2048 < length (whole (carry_out (laid (used + brings d.op) (drop (suc i) ds)) (placed h₁ m₁ p₁))) = omega (arith, placed-length h₁ m₁ p₁, carry-longer (laid (used + brings d.op) (drop (suc i) ds)) (placed h₁ m₁ p₁)) in
          record { fits = λ f. absurd (omega arith); long = λ x. subst (λ (a : At). 2048 < length (whole a)) next-rest more }

  -- nothing is left to do
  pub under-done : length ds ≤ i → Tried goal h m
  unfolding laid
  under-done e =
      let at : placed h m p ≡ goal = ap (λ (l : List DeltaOp). carry_out (laid used l) (placed h m p)) (sym (drop_of_length-le ds e)) ∙ o.rest in
      record {
        fits = λ f. record { arena = o.stands.arena; list = parts h m p ∙ ap whole at; next = ap (λ (a : At). a.next) at };
        long = λ l. absurd (omega (arith, o.few));
      }

-- ---- the operations of a delta
-- an array's length, of its elements as they are laid out
length-map : (X Y : Type 0) (f : X → Y) (l : List X) → length (map f l) ≡ length l
length-map X Y f [] = refl
length-map X Y f (x ∷ l) = ap suc (length-map X Y f l)

pub length_mapped : (X Y : Type 0) (f : X → Y) (l : List X) (n : ℕ) → length (map f l) ≡ n → length l ≡ n
length_mapped X Y f l n e = sym (length-map X Y f l) ∙ e

-- what a read past the end would give
abbrev pub unread : DeltaOp
unread = record { op = Insert (Text 0 0); attrs = record { mask = 0; values = [] } }

-- the operation that is next
pub next-is : (ds : List DeltaOp) (i : ℕ) → i < length ds → drop i ds ≡ get_or ds i unread ∷ drop (suc i) ds
next-is ds i more = drop-cons ds i unread more

pub given-length : (d : Delta) → length d.ops ≡ 256 → d.count ≤ 256 → length (given d) ≡ d.count
given-length d long few = length-take-le d.count d.ops (omega arith)

pub given-at : (d : Delta) (i : ℕ) (x : DeltaOp) → length d.ops ≡ 256 → d.count ≤ 256 → i < d.count → drop i (given d) ≡ get_or d.ops i x ∷ drop (suc i) (given d)
given-at d i x long few l =
    drop-cons (given d) i x (omega (arith, given-length d long few)) ∙ ap (λ (y : DeltaOp). y ∷ drop (suc i) (given d)) (get_or-take d.count d.ops i x l)

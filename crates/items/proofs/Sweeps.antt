-- A sweep over the words below n by number, and what it stores. Assumes nothing.
use Prim.Native.Nat.{ℕ, zero, suc, ◌+◌, ◌/◌, ◌%◌, ◌<◌, ◌≤◌}
use native.Mathlib.Numerals.{add-one}
use native.Mathlib.Omega.{arith}
use mathlib.Core.Path.{◌≡◌, refl, sym, ap, ap₂, ◌∙◌}
use mathlib.Core.Bool.{Bool, true, false}
use mathlib.Core.List.{List, ◌∷◌, ◌++◌, map}
use lib.ListN.{length, get_or, set, take, drop, length-set, take-append-drop}
use lib.Seq.{get_or-set_same, get_or-set_other, drop-set-lt, get_or-take, length-take-le}
use Rattle.std.proofs.lemmas.List.{set-append_left}
use lib.Dec.{eqb}
use borrow.Author.Tests.{lt-ltb, eqb-true, eqb-false}
use Rattle.rules.specs.Sheet.{Item, rested, begin}
use Rattle.layout.specs.declared.head.Head.{Head}
use Rattle.layout.specs.Word.{unpack_of, in_range}
use Rattle.layout.specs.Chain.{END, item_from, next_at, chain, walks}
use Rattle.layout.specs.Memory.{list_of, each_ok, Sound, stored}
use Rattle.items.specs.Calls.{rest_word, sweep_to}
use Rattle.layout.proofs.Words.{item-rest, pack-rest, pack-next, fitting_from}
use Rattle.layout.proofs.Links.{walks_parts}
use Rattle.layout.proofs.Stored.{pack-range, each_all}
use Rattle.layout.proofs.Copies.{copy-chain}

module _ (e : ℕ → ℕ) (m : List ℕ) where
  pub sweep-length : (i : ℕ) → length (sweep_to e i m) ≡ length m
  unfolding sweep_to
  sweep-length zero = refl
  sweep-length (suc i) = simp length-set (sweep-length i)

  -- a word that the sweep has not come to, and one that it has
  pub sweep-above : (i x : ℕ) → i ≤ x → get_or (sweep_to e i m) x 0 ≡ get_or m x 0
  unfolding sweep_to
  sweep-above zero x h = refl
  sweep-above (suc i) x h = get_or-set_other (sweep_to e i m) i x (e (get_or m i 0)) 0 (omega arith) ∙ sweep-above i x (omega arith)

  pub sweep-below : (i x : ℕ) → x < i → i ≤ length m → get_or (sweep_to e i m) x 0 ≡ e (get_or m x 0)
  unfolding sweep_to
  sweep-below zero x h l = absurd (omega arith)
  sweep-below (suc i) x h l = go (eqb x i) refl (λ h'. sweep-below i x h' (omega arith))
    where
      go : (t : Bool) → eqb x i ≡ t → (x < i → get_or (sweep_to e i m) x 0 ≡ e (get_or m x 0)) → get_or (set (sweep_to e i m) i (e (get_or m i 0))) x 0 ≡ e (get_or m x 0)
      go true q r = rw (eqb-true x i q) (get_or-set_same (sweep_to e i m) i (e (get_or m i 0)) 0 (omega (arith, sweep-length i)))
      go false q r =
          let d : x ≡ i → ⊥ = eqb-false x i q in
          get_or-set_other (sweep_to e i m) i x (e (get_or m i 0)) 0 d ∙ r (omega (arith, d))

  pub sweep-rest : (n i : ℕ) → i ≤ n → drop n (sweep_to e i m) ≡ drop n m
  unfolding sweep_to
  sweep-rest n zero h = refl
  sweep-rest n (suc i) h = drop-set-lt n (sweep_to e i m) i _ (omega arith) ∙ sweep-rest n i (omega arith)

  -- one store more, as the loop makes it
  pub sweep-more : (k : List ℕ) (i w : ℕ) → k ≡ sweep_to e i m → w ≡ e (get_or k i 0) → set k i w ≡ sweep_to e (i + 1) m
  unfolding sweep_to
  sweep-more k i w ek ew = rw (add-one, ew, ek, sweep-above i i (omega arith))

  -- a change that keeps the link, and makes g of each item
  module _ (g : Item → Item) (link : (w : ℕ) → e w % 4096 ≡ w % 4096) (item : (x w : ℕ) → item_from x (e w / 4096) ≡ g (item_from x (w / 4096))) (range : (w : ℕ) → in_range (e w) ≡ true) (b : ℕ) (room : b ≤ length m) where
    pub sweep-chain : (f s : ℕ) → walks b f m s ≡ true → (walks b f (sweep_to e b m) s ≡ true) × (chain f (sweep_to e b m) s ≡ map g (chain f m s))
    unfolding walks chain
    sweep-chain zero s p = (p, refl)
    sweep-chain (suc f) s p =
        let q = walks_parts b f m s p in
        let r = sweep-chain f (next_at m s) q.1 in
        rw (sweep-below b s q.0 room, link (get_or m s 0), lt-ltb s b q.0) (r.0, ap₂ ◌∷◌ (item s (get_or m s 0)) r.1)

    -- over all items it stores the changed list
    pub sweep-stored : (s : ℕ) → b ≤ END → walks b b m s ≡ true → sweep_to e b m ≡ stored (map g (chain b m s)) m
    sweep-stored s few p =
        let k = sweep_to e b m in
        let c = sweep-chain b s p in
        let fit : each_ok in_range b k s ≡ true = each_all in_range b b k s (λ j h. ap in_range (sweep-below b j h room) ∙ range (get_or m j 0)) c.0 in
        sym (take-append-drop b k)
        ∙ ap (λ (x : List ℕ). take b k ++ x) (sweep-rest b b (omega arith))
        ∙ copy-chain b m k s few room (omega (arith, sweep-length b)) c.0 fit
        ∙ ap (λ (l : List Item). stored l m) c.1

-- the front swept by itself
pub sweep-part : (e : ℕ → ℕ) (m : List ℕ) (n i : ℕ) → i ≤ n → n ≤ length m → sweep_to e i (take n m) ++ drop n m ≡ sweep_to e i m
unfolding sweep_to
sweep-part e m n zero h l = take-append-drop n m
sweep-part e m n (suc i) h l =
    let swept = sweep_to e i (take n m) in
    let at : i < length swept = omega (arith, sweep-length e (take n m) i, length-take-le n m l) in
    sym (set-append_left swept (drop n m) i _ at) ∙ rw (sweep-part e m n i (omega arith) l, get_or-take n m i 0 (omega arith))

-- ---- begin
rest-item : (x w : ℕ) → item_from x (rest_word w / 4096) ≡ rested (item_from x (w / 4096))
rest-item x w =
    let u = unpack_of w in
    ap (item_from x) (pack-rest (record { next = u.next; content = u.content; dead = u.dead; added = false; gone = false }) (omega arith))
    ∙ item-rest u.content u.dead false false x (fitting_from (w / 4096 % 4) (w / 4096 / 32 % 4294967296) (omega arith))

rest-range : (w : ℕ) → in_range (rest_word w) ≡ true
rest-range w =
    let u = unpack_of w in
    pack-range (record { next = u.next; content = u.content; dead = u.dead; added = false; gone = false }) (omega arith) (fitting_from (w / 4096 % 4) (w / 4096 / 32 % 4294967296) (omega arith))

rest-next : (w : ℕ) → rest_word w % 4096 ≡ w % 4096
rest-next w =
    let u = unpack_of w in
    pack-next (record { next = u.next; content = u.content; dead = u.dead; added = false; gone = false }) (omega arith)

pub begin-stored : (h : Head) (m u : List ℕ) → Sound h m u → sweep_to rest_word h.items m ≡ stored (begin (list_of h m)) m
begin-stored h m u ok =
    sweep-stored rest_word m rested rest-next rest-item rest-range h.items (omega (arith, ok.items, ok.words)) h.first (omega (arith, ok.items)) ok.walk

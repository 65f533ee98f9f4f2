-- The event, read over what stood before, gives what stands now: for any two readings of any list, and any key.
use Prim.Native.Nat.{ℕ, ◌+◌}
use mathlib.Core.Path.{◌≡◌, refl, sym, ap, ◌∙◌}
use mathlib.Core.Bool.{Bool, true, false, cond, not, ◌&&◌}
use mathlib.Core.List.{List, [], ◌∷◌, ◌++◌, map, append_assoc, append-nil}
use lib.Dec.{eqb}
use lib.ListN.{length, take, drop, length-append, take-append-drop}
use lib.Seq.{take_at, drop_at}
use borrow.Author.Tests.{eqb-true}
use Rattle.sets.specs.Sets.{Slot, absent, is, Set, Env, keys, bare, lay, non_null, as_set}
use Rattle.rules.specs.Sheet.{What, text, embed, mark, Item}
use Rattle.rules.specs.Reading.{Seen, Glyph, thing, units_of, glyphs, Cell, paint, lay_cell, cells, set_key, shown, Op, insert, delete, retain, read}
use Rattle.rules.specs.Event.{Run, idle, inserting, deleting, retaining, Asm, add_op, grow_insert, grow_delete, grow_retain, Change, stays, becomes, change, mark_step, step, changed, pending, told, passed, gather, ahead, finish, fresh, event}
use Rattle.laws.proofs.Lists.{paint-append, length-paint, lay-paint, map-append, lay-absent, length-units, In, bare-at, and_left}

abbrev Ops : Type 0
Ops = List (Op (List Glyph))

-- the cells that a run has passed in the old reading
abbrev pub Holds : Run → List Cell → Type 0
Holds idle h = h ≡ []
Holds (inserting gs) h = h ≡ []
Holds (deleting n) h = length h ≡ n
Holds (retaining n) h = length h ≡ n

-- and what it gives in the new one
abbrev pub gives : Run → Slot → ℕ → List Cell → List Cell
gives idle s c h = []
gives (inserting gs) s c h = paint c gs
gives (deleting n) s c h = []
gives (retaining n) s c h = map (lay_cell s) h

lay-non_null : (v : ℕ) → lay (non_null v) 0 ≡ v
lay-non_null v = go (eqb v 0) refl
  where
    go : (b : Bool) → eqb v 0 ≡ b → lay (cond b absent (is v)) 0 ≡ v
    go true e = sym (eqb-true v 0 e)
    go false e = refl

module _ (j : ℕ) where
  -- the run's operation reads what it holds
  flush : (r : Run) (a : Set) (c : Env) (h cs : List Cell) (ops : Ops) → Holds r h
      → read j (add_op r a c ++ ops) (h ++ cs) ≡ gives r (a j) (c j) h ++ read j ops cs
  flush idle a c h cs ops e = ap (λ (x : List Cell). read j ops (x ++ cs)) e
  flush (inserting gs) a c h cs ops e = rw (lay-non_null (c j)) (ap (λ (x : List Cell). paint (c j) gs ++ read j ops (x ++ cs)) e)
  flush (deleting n) a c h cs ops e = ap (read j ops) (drop_at h cs n e)
  flush (retaining n) a c h cs ops e = rw (take_at h cs n e, drop_at h cs n e)

  -- an item carried over: what the run holds after it, and what came out
  pub record Carry (out : Ops) (r r' : Run) (s s' : Slot) (c c' : ℕ) (h ca cb : List Cell) : Type 0 where
    pub holds : List Cell
    pub held : Holds r' holds
    pub reads : (ops : Ops) (cs : List Cell) → (x : List Cell) × (read j (out ++ ops) (h ++ (ca ++ cs)) ≡ x ++ read j ops (holds ++ cs)) × (x ++ gives r' s' c' holds ≡ gives r s c h ++ cb)

  abbrev asm : Run → Set → Env → Env → Asm
  asm r a c o = record { run = r; attrs = a; cur = c; old = o }

  -- a run that ends, and a new one
  begins : (r r' : Run) (a : Set) (c : Env) (s' : Slot) (c' : ℕ) (h ca cb : List Cell) → Holds r h → Holds r' ca → gives r' s' c' ca ≡ cb
      → Carry (add_op r a c ++ []) r r' (a j) s' (c j) c' h ca cb
  begins r r' a c s' c' h ca cb hr hr' e = record {
    holds = ca;
    held = hr';
    reads = λ ops cs. (gives r (a j) (c j) h, rw (append-nil (add_op r a c)) (flush r a c h (ca ++ cs) ops hr), ap (λ (x : List Cell). gives r (a j) (c j) h ++ x) e);
  }

  -- a run that goes on
  grows : (r r' : Run) (s s' : Slot) (c c' : ℕ) (h ca cb : List Cell) → Holds r' (h ++ ca) → gives r' s' c' (h ++ ca) ≡ gives r s c h ++ cb
      → Carry [] r r' s s' c c' h ca cb
  grows r r' s s' c c' h ca cb hr e = record {
    holds = h ++ ca;
    held = hr;
    reads = λ ops cs. ([], ap (read j ops) (sym (append_assoc h ca cs)), e);
  }

  same : (r : Run) (s : Slot) (c : ℕ) (h : List Cell) → Holds r h → Carry [] r r s s c c h [] []
  same r s c h hr = grows r r s s c c h [] [] (rw (append-nil h) hr) (rw (append-nil h, append-nil (gives r s c h)) refl)

  retained : (r : Run) (a : Set) (c o : Env) (gs : List Glyph) (w : ℕ) (h : List Cell) → length gs ≡ w → Holds r h → lay (a j) (o j) ≡ c j
      → Carry (told (grow_retain w r) (asm r a c o)) r (grow_retain w r).then (a j) (a j) (c j) (c j) h (paint (o j) gs) (paint (c j) gs)
  retained idle a c o gs w h e hr i = begins idle (retaining w) a c (a j) (c j) h (paint (o j) gs) (paint (c j) gs) hr (length-paint (o j) gs ∙ e) (lay-paint (a j) (o j) gs ∙ ap (λ (x : ℕ). paint x gs) i)
  retained (inserting hs) a c o gs w h e hr i = begins (inserting hs) (retaining w) a c (a j) (c j) h (paint (o j) gs) (paint (c j) gs) hr (length-paint (o j) gs ∙ e) (lay-paint (a j) (o j) gs ∙ ap (λ (x : ℕ). paint x gs) i)
  retained (deleting n) a c o gs w h e hr i = begins (deleting n) (retaining w) a c (a j) (c j) h (paint (o j) gs) (paint (c j) gs) hr (length-paint (o j) gs ∙ e) (lay-paint (a j) (o j) gs ∙ ap (λ (x : ℕ). paint x gs) i)
  retained (retaining n) a c o gs w h e hr i = grows (retaining n) (retaining (n + w)) (a j) (a j) (c j) (c j) h (paint (o j) gs) (paint (c j) gs)
      (rw (length-append h (paint (o j) gs), length-paint (o j) gs, e, hr) refl)
      (map-append (lay_cell (a j)) h (paint (o j) gs) ∙ ap (λ (x : List Cell). map (lay_cell (a j)) h ++ x) (lay-paint (a j) (o j) gs ∙ ap (λ (x : ℕ). paint x gs) i))

  deleted : (r : Run) (a : Set) (c o : Env) (gs : List Glyph) (w : ℕ) (h : List Cell) → length gs ≡ w → Holds r h
      → Carry (told (grow_delete w r) (asm r a c o)) r (grow_delete w r).then (a j) (a j) (c j) (c j) h (paint (o j) gs) []
  deleted idle a c o gs w h e hr = begins idle (deleting w) a c (a j) (c j) h (paint (o j) gs) [] hr (length-paint (o j) gs ∙ e) refl
  deleted (inserting hs) a c o gs w h e hr = begins (inserting hs) (deleting w) a c (a j) (c j) h (paint (o j) gs) [] hr (length-paint (o j) gs ∙ e) refl
  deleted (retaining n) a c o gs w h e hr = begins (retaining n) (deleting w) a c (a j) (c j) h (paint (o j) gs) [] hr (length-paint (o j) gs ∙ e) refl
  deleted (deleting n) a c o gs w h e hr = grows (deleting n) (deleting (n + w)) (a j) (a j) (c j) (c j) h (paint (o j) gs) []
      (rw (length-append h (paint (o j) gs), length-paint (o j) gs, e, hr) refl) refl

  inserted : (r : Run) (a : Set) (c o : Env) (gs : List Glyph) (h : List Cell) → Holds r h
      → Carry (told (grow_insert gs r) (asm r a c o)) r (grow_insert gs r).then (a j) (a j) (c j) (c j) h [] (paint (c j) gs)
  inserted idle a c o gs h hr = begins idle (inserting gs) a c (a j) (c j) h [] (paint (c j) gs) hr refl refl
  inserted (deleting n) a c o gs h hr = begins (deleting n) (inserting gs) a c (a j) (c j) h [] (paint (c j) gs) hr refl refl
  inserted (retaining n) a c o gs h hr = begins (retaining n) (inserting gs) a c (a j) (c j) h [] (paint (c j) gs) hr refl refl
  inserted (inserting hs) a c o gs h hr = grows (inserting hs) (inserting (hs ++ gs)) (a j) (a j) (c j) (c j) h [] (paint (c j) gs)
      (rw append-nil hr) (paint-append (c j) hs gs)

  embedded : (r : Run) (a : Set) (c o : Env) (gs : List Glyph) (h : List Cell) → Holds r h
      → Carry (add_op r a c ++ (insert gs (as_set c) ∷ [])) r idle (a j) (a j) (c j) (c j) h [] (paint (c j) gs)
  embedded r a c o gs h hr = record {
    holds = [];
    held = refl;
    reads = λ ops cs. (
      gives r (a j) (c j) h ++ paint (c j) gs,
      rw (append_assoc (add_op r a c) (insert gs (as_set c) ∷ []) ops) (flush r a c h cs (insert gs (as_set c) ∷ ops) hr ∙ rw (lay-non_null (c j)) (sym (append_assoc (gives r (a j) (c j) h) (paint (c j) gs) (read j ops cs)))),
      append-nil _,
    );
  }

  marked : (ch : Change) (now : Bool) (r : Run) (a : Set) (c o : Env) (k v : ℕ) (h : List Cell) → Holds r h
      → Carry (told (mark_step ch now r) (asm r a c o)) r (mark_step ch now r).then (a j) (changed ch k a j) (c j) (cond now (cond (eqb j k) v (c j)) (c j)) h [] []
  marked ch now idle a c o k v h hr = grows idle idle _ _ _ _ h [] [] (rw append-nil hr) refl
  marked ch true (inserting gs) a c o k v h hr = begins (inserting gs) idle a c _ _ h [] [] hr refl refl
  marked ch false (inserting gs) a c o k v h hr = grows (inserting gs) (inserting gs) _ _ _ _ h [] [] (rw append-nil hr) (sym (append-nil _))
  marked ch now (deleting n) a c o k v h hr = grows (deleting n) (deleting n) _ _ _ _ h [] [] (rw append-nil hr) refl
  marked stays now (retaining n) a c o k v h hr = grows (retaining n) (retaining n) _ _ _ _ h [] [] (rw append-nil hr) (map-append _ h [])
  marked (becomes s) now (retaining n) a c o k v h hr = begins (retaining n) idle a c _ _ h [] [] hr refl refl

  carried : (was now : Bool) (w : What) (r : Run) (a : Set) (c o : Env) (h : List Cell) → Holds r h → lay (a j) (o j) ≡ c j
      → Carry (told (step was now w (asm r a c o)) (asm r a c o)) r (step was now w (asm r a c o)).then (a j) (pending was now w (asm r a c o) j)
      (c j) (cond now (set_key j w (c j)) (c j)) h (cond was (paint (o j) (glyphs w)) []) (cond now (paint (c j) (glyphs w)) [])
  carried false false (text s n) r a c o h hr i = same r (a j) (c j) h hr
  carried false true (text s n) r a c o h hr i = inserted r a c o (units_of s n) h hr
  carried true false (text s n) r a c o h hr i = deleted r a c o (units_of s n) n h (length-units s n) hr
  carried true true (text s n) r a c o h hr i = retained r a c o (units_of s n) n h (length-units s n) hr i
  carried false false (embed e) r a c o h hr i = same r (a j) (c j) h hr
  carried false true (embed e) r a c o h hr i = embedded r a c o (thing e ∷ []) h hr
  carried true false (embed e) r a c o h hr i = deleted r a c o (thing e ∷ []) 1 h refl hr
  carried true true (embed e) r a c o h hr i = retained r a c o (thing e ∷ []) 1 h refl hr i
  carried false false (mark k v) r a c o h hr i = marked (change false false (o k) (c k) (a k) v) false r a c o k v h hr
  carried false true (mark k v) r a c o h hr i = marked (change false true (o k) (c k) (a k) v) true r a c o k v h hr
  carried true false (mark k v) r a c o h hr i = marked (change true false (o k) (c k) (a k) v) false r a c o k v h hr
  carried true true (mark k v) r a c o h hr i = marked (change true true (o k) (c k) (a k) v) true r a c o k v h hr

-- The invariant, for one key: what is pending, laid over the old value, is the current one.
abbrev chosen : Change → Slot → Slot
chosen stays p = p
chosen (becomes s) p = s

slot_kept : (was now : Bool) (o c : ℕ) (p : Slot) (v : ℕ) → lay p o ≡ c → lay (chosen (change was now o c p v) p) (cond was v o) ≡ cond now v c
slot_kept false false o c p v i = i
slot_kept false true o c p v i = go (eqb c v && not (eqb v 0)) refl
  where
    go₁ : (b : Bool) → eqb o v ≡ b → lay (cond b absent (is v)) o ≡ v
    go₁ true e = eqb-true o v e
    go₁ false e = refl

    go : (b : Bool) → (eqb c v && not (eqb v 0)) ≡ b → lay (chosen (cond b stays (becomes (cond (eqb o v) absent (is v)))) p) o ≡ v
    go true e = i ∙ eqb-true c v (and_left _ _ e)
    go false e = go₁ (eqb o v) refl
slot_kept true false o c absent v i = go (eqb c v) refl
  where
    go : (b : Bool) → eqb c v ≡ b → lay (chosen (cond b stays (becomes (is c))) absent) v ≡ c
    go true e = sym (eqb-true c v e)
    go false e = refl
slot_kept true false o c (is w) v i = go (eqb c v)
  where
    go : (b : Bool) → lay (chosen (cond b stays (becomes (is c))) (is w)) v ≡ c
    go true = i
    go false = refl
slot_kept true true o c absent v i = refl
slot_kept true true o c (is w) v i = go (eqb w v) refl
  where
    go₁ : (b : Bool) → lay (cond b absent (is v)) v ≡ v
    go₁ true = refl
    go₁ false = refl

    go : (b : Bool) → eqb w v ≡ b → lay (chosen (cond b stays (becomes (non_null v))) (is w)) v ≡ v
    go true e = eqb-true w v e
    go false e = go₁ (eqb v 0)

changed-at : (ch : Change) (j k : ℕ) (a : Set) → eqb j k ≡ true → changed ch k a j ≡ chosen ch (a k)
changed-at stays j k a e = ap a (eqb-true j k e)
changed-at (becomes s) j k a e = rw e

changed_off : (ch : Change) (j k : ℕ) (a : Set) → eqb j k ≡ false → changed ch k a j ≡ a j
changed_off stays j k a e = refl
changed_off (becomes s) j k a e = rw e

mark-kept : (j : ℕ) (was now : Bool) (k v : ℕ) (a : Set) (c o : Env) → lay (a j) (o j) ≡ c j
    → lay (changed (change was now (o k) (c k) (a k) v) k a j) (cond was (cond (eqb j k) v (o j)) (o j)) ≡ cond now (cond (eqb j k) v (c j)) (c j)
mark-kept j was now k v a c o i = go (eqb j k) refl
  where
    ch : Change
    ch = change was now (o k) (c k) (a k) v

    off : (b b' : Bool) → lay (a j) (cond b (o j) (o j)) ≡ cond b' (c j) (c j)
    off true true = i
    off true false = i
    off false true = i
    off false false = i

    go : (b : Bool) → eqb j k ≡ b → lay (changed ch k a j) (cond was (cond b v (o j)) (o j)) ≡ cond now (cond b v (c j)) (c j)
    go true e = rw (changed-at ch j k a e, eqb-true j k e) (slot_kept was now (o k) (c k) (a k) v (rw (eqb-true j k e) at i))
    go false e = rw (changed_off ch j k a e) (off was now)

kept : (j : ℕ) (was now : Bool) (w : What) (t : Asm) → lay (t.attrs j) (t.old j) ≡ t.cur j
    → lay (pending was now w t j) (cond was (set_key j w (t.old j)) (t.old j)) ≡ cond now (set_key j w (t.cur j)) (t.cur j)
kept j true true (text s n) t i = i
kept j true false (text s n) t i = i
kept j false true (text s n) t i = i
kept j false false (text s n) t i = i
kept j true true (embed e) t i = i
kept j true false (embed e) t i = i
kept j false true (embed e) t i = i
kept j false false (embed e) t i = i
kept j was now (mark k v) t i = mark-kept j was now k v t.attrs t.cur t.old i

pub replay_from : (j : ℕ) (was now : Seen) (l : List Item) (t : Asm) (h : List Cell) → Holds t.run h → lay (t.attrs j) (t.old j) ≡ t.cur j
    → read j (gather was now t l) (h ++ cells was j (t.old j) l) ≡ gives t.run (t.attrs j) (t.cur j) h ++ cells now j (t.cur j) l
replay_from j was now [] t h hr i = ap (λ (x : Ops). read j x (h ++ [])) (sym (append-nil (add_op t.run t.attrs t.cur))) ∙ flush j t.run t.attrs t.cur h [] [] hr
replay_from j was now (i ∷ l) t h hr inv =
    go (carried j (was i.flags) (now i.flags) i.what t.run t.attrs t.cur t.old h hr inv)
    (λ h' hr'. replay_from j was now l (passed was now i t) h' hr' (kept j (was i.flags) (now i.flags) i.what t inv))
  where
    t' : Asm
    t' = passed was now i t

    go : Carry j (told (step (was i.flags) (now i.flags) i.what t) t) t.run t'.run (t.attrs j) (t'.attrs j) (t.cur j) (t'.cur j) h (shown was i (t.old j)) (shown now i (t.cur j))
        → ((h' : List Cell) → Holds t'.run h' → read j (gather was now t' l) (h' ++ cells was j (t'.old j) l) ≡ gives t'.run (t'.attrs j) (t'.cur j) h' ++ cells now j (t'.cur j) l)
        → read j (gather was now t (i ∷ l)) (h ++ cells was j (t.old j) (i ∷ l)) ≡ gives t.run (t.attrs j) (t.cur j) h ++ cells now j (t.cur j) (i ∷ l)
    go c ih =
        let q = c.reads (gather was now t' l) (cells was j (t'.old j) l) in
        q.1 ∙ ap (λ (x : List Cell). q.0 ++ x) (ih c.holds c.held) ∙ sym (append_assoc q.0 (gives t'.run (t'.attrs j) (t'.cur j) c.holds) (cells now j (t'.cur j) l)) ∙ ap (λ (x : List Cell). x ++ cells now j (t'.cur j) l) q.2 ∙ append_assoc (gives t.run (t.attrs j) (t.cur j) h) (shown now i (t.cur j)) (cells now j (t'.cur j) l)

-- dropping trailing Retains without attributes changes no reading
ahead-reads : (j : ℕ) → In j keys → (op : Op (List Glyph)) (ops : Ops) (cs : List Cell) → read j (ahead op ops) cs ≡ read j (op ∷ ops) cs
ahead-reads j jk op (o ∷ ops) cs = refl
ahead-reads j jk (insert gs a) [] cs = refl
ahead-reads j jk (delete n) [] cs = refl
ahead-reads j jk (retain n a) [] cs = go (bare keys a) refl
  where
    go : (b : Bool) → bare keys a ≡ b → read j (cond b [] (retain n a ∷ [])) cs ≡ read j (retain n a ∷ []) cs
    go true e = rw (bare-at j keys a jk e, lay-absent (take n cs), take-append-drop n cs)
    go false e = refl

on-rest : (j : ℕ) (op : Op (List Glyph)) (a b : Ops) → ((cs : List Cell) → read j a cs ≡ read j b cs) → (cs : List Cell) → read j (op ∷ a) cs ≡ read j (op ∷ b) cs
on-rest j (insert gs s) a b h cs = ap (λ (x : List Cell). paint (lay (s j) 0) gs ++ x) (h cs)
on-rest j (delete n) a b h cs = h (drop n cs)
on-rest j (retain n s) a b h cs = ap (λ (x : List Cell). map (lay_cell (s j)) (take n cs) ++ x) (h (drop n cs))

finish-reads : (j : ℕ) → In j keys → (ops : Ops) (cs : List Cell) → read j (finish ops) cs ≡ read j ops cs
finish-reads j jk [] cs = refl
finish-reads j jk (op ∷ ops) cs = ahead-reads j jk op (finish ops) cs ∙ on-rest j op (finish ops) ops (finish-reads j jk ops) cs

-- The replay theorem.
pub replay : (j : ℕ) → In j keys → (was now : Seen) (l : List Item) → read j (event was now l) (cells was j 0 l) ≡ cells now j 0 l
replay j jk was now l = finish-reads j jk (gather was now fresh l) (cells was j 0 l) ∙ replay_from j was now l fresh [] refl refl

-- A delta carried out on a sheet shows what its reader reads: for any operations, any list and any key.
use Prim.Native.Nat.{ℕ, zero, suc}
use mathlib.Core.Path.{◌≡◌, refl, ap, ◌∙◌, subst}
use mathlib.Core.List.{List, [], ◌∷◌, ◌++◌, map, append_assoc}
use Rattle.sets.specs.Sets.{Env, none, keys}
use Rattle.rules.specs.Sheet.{Item}
use Rattle.rules.specs.Reading.{live, Glyph, Cell, cells, force, Op, insert, delete, retain, read}
use Rattle.rules.specs.Places.{At, whole, stay, after, and_then}
use Rattle.rules.specs.Delta.{Given, new_text, new_embed, move, carry_out, delta, spelt}
use Rattle.laws.proofs.Lists.{In}
use Rattle.laws.proofs.Places.{Reads, reads_end, reads_then, reads_whole, whole-end}
use Rattle.laws.proofs.Format.{format-reads}
use Rattle.laws.proofs.Insert.{insert-reads}
use Rattle.laws.proofs.Remove.{delete-reads}

module _ (j : ℕ) (jk : In j keys) where
  -- an operation at a place: what it leaves on either side
  pub record Shows (op : Op Given) (p : At) (v : ℕ) (cs : List Cell) (z : ℕ) : Type 0 where
    pub out : List Cell
    pub rest : List Cell
    pub reads : Reads j v p out rest z
    pub reader : (ops : List (Op (List Glyph))) → out ++ read j ops rest ≡ read j (spelt op ∷ ops) cs

  move-shows : (op : Op Given) (e : Env) (l : List Item) (m : ℕ) → Shows op (move op e l m) (e j) (cells live j (e j) l) (force live j (e j) l)
  move-shows (insert (new_text s zero) a) e l m = record { out = []; rest = _; reads = record { left = refl; right = refl; end = refl }; reader = λ ops. refl }
  move-shows (insert (new_text s (suc n)) a) e l m = record { out = _; rest = _; reads = insert-reads j jk _ a e l m refl; reader = λ ops. refl }
  move-shows (insert (new_embed x) a) e l m = record { out = _; rest = _; reads = insert-reads j jk _ a e l m refl; reader = λ ops. refl }
  move-shows (delete n) e l m = record { out = _; rest = _; reads = delete-reads j n e l m; reader = λ ops. refl }
  move-shows (retain n a) e l m = record { out = _; rest = _; reads = format-reads j jk a n e l m; reader = λ ops. refl }

  -- carried out, the operations show what reading them gives, and keep what is in force at the end
  pub record Read (p : At) (cs : List Cell) (z : ℕ) : Type 0 where
    pub shows : cells live j 0 (whole p) ≡ cs
    pub ends : force live j 0 (whole p) ≡ z

  carry-reads : (ops : List (Op Given)) (p : At) (x y : List Cell) (z : ℕ) → Reads j 0 p x y z → Read (carry_out ops p) (x ++ read j (map spelt ops) y) z
  carry-reads [] p x y z r = record { shows = reads_whole j 0 p x y r; ends = whole-end j 0 p x y r }
  carry-reads (op ∷ ops) p x y z r =
      subst (λ (cs : List Cell). Read (carry_out (op ∷ ops) p) cs z)
      (append_assoc x s.out (read j (map spelt ops) s.rest) ∙ ap (λ (c : List Cell). x ++ c) (s.reader (map spelt ops) ∙ ap (read j (map spelt (op ∷ ops))) r.right))
      (carry-reads ops (and_then none p (move op)) (x ++ s.out) s.rest z (reads_then j 0 none p (move op) x y s.out s.rest r (reads_end r.end s.reads)))
    where
      s : Shows op (move op (after none p.left) p.right p.next) (force live j 0 p.left) (cells live j (force live j 0 p.left) p.right) (force live j (force live j 0 p.left) p.right)
      s = move-shows op (after none p.left) p.right p.next

  delta-reads : (ops : List (Op Given)) (l : List Item) (m : ℕ) → Read (delta ops l m) (read j (map spelt ops) (cells live j 0 l)) (force live j 0 l)
  delta-reads ops l m = carry-reads ops (stay l m) [] (cells live j 0 l) (force live j 0 l) (record { left = refl; right = refl; end = refl })

  pub delta-cells : (ops : List (Op Given)) (l : List Item) (m : ℕ) → cells live j 0 (whole (delta ops l m)) ≡ read j (map spelt ops) (cells live j 0 l)
  delta-cells ops l m = (delta-reads ops l m).shows

  pub delta-end : (ops : List (Op Given)) (l : List Item) (m : ℕ) → force live j 0 (whole (delta ops l m)) ≡ force live j 0 l
  delta-end ops l m = (delta-reads ops l m).ends

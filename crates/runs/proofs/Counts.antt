-- A list has no more runs than items. Assumes nothing.
use Prim.Native.Nat.{ℕ, suc, ◌+◌, ◌≤◌}
use native.Mathlib.Omega.{arith}
use mathlib.Core.Path.{◌≡◌, refl, ap}
use mathlib.Core.Bool.{Bool, true, false, cond}
use mathlib.Core.List.{List, [], ◌∷◌, ◌++◌}
use lib.ListN.{length, length-append}
use Rattle.sets.specs.Sets.{Env, none}
use Rattle.rules.specs.Sheet.{What, text, embed, mark, Item}
use Rattle.rules.specs.Reading.{live, pass_key, Glyph, glyphs}
use Rattle.rules.specs.Runs.{Run as Stretch, object, pack, runs_from, runs, mergeable, merged, ahead, joined}
use Rattle.layout.specs.declared.head.Head.{Head}
use Rattle.layout.specs.Memory.{list_of}
use Rattle.layout.proofs.Links.{length-chain}
use Rattle.cursors.specs.Records.{len_of, record_of, records_of, runs_by}
use Rattle.runs.specs.Answers.{records_in}

-- what is gathered is one run at most
pack-one : (gs : List Glyph) (e : Env) → length (pack gs e) ≤ 1
pack-one [] e = omega arith
pack-one (g ∷ gs) e = omega arith

runs-few : (l : List Item) (gs : List Glyph) (e : Env) → length (runs_from gs e l) ≤ length (pack gs e) + length l
runs-few [] gs e = omega arith
runs-few (i ∷ l) gs e = go i.what i.flags.dead (runs-few l)
  where
    item : What → Bool → Item
    item w d = record { num = i.num; what = w; flags = record { dead = d; added = i.flags.added; gone = i.flags.gone } }

    go : (w : What) (d : Bool) → ((hs : List Glyph) (f : Env) → length (runs_from hs f l) ≤ length (pack hs f) + length l)
        → length (runs_from gs e (item w d ∷ l)) ≤ length (pack gs e) + suc (length l)
    go w true ih = omega (arith, ih gs e)
    go (text s n) false ih = omega (arith, ih (gs ++ glyphs (text s n)) e, pack-one (gs ++ glyphs (text s n)) e)
    go (embed x) false ih = omega (arith, length-append (pack gs e) (record { chunk = object x; force = e } ∷ runs_from [] e l), ih [] e)
    go (mark k v) false ih =
        let f : Env = λ j. pass_key live j (item (mark k v) false) (e j) in
        omega (arith, length-append (pack gs e) (runs_from [] f l), ih [] f)

ahead-few : (r : Stretch) (rs : List Stretch) → length (ahead r rs) ≤ suc (length rs)
ahead-few r [] = omega arith
ahead-few r (s ∷ rs) = go (mergeable r s)
  where
    go : (b : Bool) → length (cond b (merged r s ∷ rs) (r ∷ s ∷ rs)) ≤ suc (suc (length rs))
    go true = omega arith
    go false = omega arith

joined-few : (rs : List Stretch) → length (joined rs) ≤ length rs
joined-few [] = omega arith
joined-few (r ∷ rs) = omega (arith, ahead-few r (joined rs), joined-few rs)

by-few : (j : Bool) (rs : List Stretch) → length (runs_by j rs) ≤ length rs
unfolding runs_by
by-few false rs = omega arith
by-few true rs = joined-few rs

length-records : (s : ℕ) (rs : List Stretch) → length (records_of s rs) ≡ length rs
unfolding records_of
length-records s [] = refl
length-records s (r ∷ rs) = ap suc (length-records (s + len_of r.chunk) rs)

pub records-few : (h : Head) (m : List ℕ) (j : Bool) → length (records_in h m j) ≤ h.items
records-few h m j =
    let l = list_of h m in
    omega (arith, length-records 0 (runs_by j (runs l)), by-few j (runs l), runs-few l [] none, length-chain h.items m h.first)

-- `copying::copy` meets its contract. The invariant: the items so far lie over the front. Assumes nothing.
use Rattle.std.proofs.Common.{◌≡◌, ℕ, ◌+◌, ◌<◌, List, length, get_or, set, ap, subst, ◌∙◌, arith}
use Rattle.std.proofs.lemmas.List.Edits.{paste_more}
use lib.Seq.{paste}
use Rattle.copying.proofs.copy.Goals as goal

one_more : {A : Type 0} (from to now : List A) (i : ℕ) (item : A) → now ≡ paste to 0 from i → item ≡ get_or from i item → i < length to → i < length from → set now i item ≡ paste to 0 from (i + 1)
one_more from to now i item so_far is in_to in_from =
    let here : 0 + i ≡ i = omega arith in
    let more = paste_more to 0 from i item (omega arith) in_from in
    ap (λ l. set l i item) so_far ∙ ap (λ x. set (paste to 0 from i) i x) is
    ∙ subst (λ (j : ℕ). set (paste to 0 from i) j (get_or from i item) ≡ paste to 0 from (i + 1)) here more

pub loop-i-preserved : goal.loop-i-preserved
loop-i-preserved g c = one_more _ _ _ _ _ c.loop-i.invariant c.index-from-i.is (omega arith) (omega arith)

-- `soundness::walk` meets its contract. The invariant: what is left of the test here is the whole test, and what was counted and the
-- visible length of the rest are that of the whole. Assumes nothing.
use Prim.Native.Nat.{◌≤◌, ◌+◌, ◌-◌}
use native.Mathlib.Omega.{arith}
use mathlib.Core.Path.{◌≡◌, sym, ◌∙◌}
use borrow.Author.Tests.{ne_eqb, eq-eqb}
use lib.ListN.{get_or}
use mathlib.Core.Bool.{◌&&◌}
use lib.Dec.{eqb}
use Rattle.units.proofs.Halves.{and_no-left, and_no-right}
use Rattle.layout.specs.Word.{shown_len}
use Rattle.layout.specs.Chain.{END, item_at}
use Rattle.layout.specs.Memory.{len_of, word_ok, sound_of}
use Rattle.layout.proofs.Soundness.{rest_ok, sound-rest, rest_out, rest-bad, rest_over, rest-step, rest_end}
use Rattle.layout.proofs.Lengths.{visible-step, visible-end, shown-le}
use Rattle.soundness.proofs.Measures.{measured-broken, measured-sound}
use Rattle.soundness.proofs.walk.Goals as goal
use Rattle.soundness.proofs.walk.Goals.{After-word_ok, At-loop, else-at-eq-END-via-then-at-eq-END+else-sum-h-2, else-at-eq-END-via-else-at-eq-END}

-- at each turn: what is left, and of the word that is met, whether it is in order
whole_is : (c : At-loop) → (
    let a = c.args in
    sound_of a.h a.items.now a.texts.units.now ≡ rest_ok a.h.items a.h.units a.items.now a.texts.units.now (a.h.items - c.loop.counter) c.loop.at c.loop.sum
    )
whole_is c =
    let sized = c.requires.sized in
    sound-rest _ _ _ sized.words sized.room sized.items sized.used ∙ sym c.loop.invariant.1

word-is : (c : After-word_ok) → (
    let a = c.args in
    c.word_ok.result ≡ word_ok a.texts.units.now a.h.units (get_or a.items.now c.loop.at 0)
    )
word-is c = rw c.requires.used at c.word_ok.ensures

pub returns-then-at-h : goal.returns-then-at-h
returns-then-at-h c = measured-broken _ _ _ (whole_is (goal.at.returns-then-at-h c).At-loop ∙ rest_out _ _ _ _ _ _ _ (omega arith) (omega arith))

pub returns-then-not-word_ok : goal.returns-then-not-word_ok
returns-then-not-word_ok c =
    let bad = sym (word-is (goal.at.returns-then-not-word_ok c).After-word_ok) ∙ c.if-not-word_ok.true in
    measured-broken _ _ _ (whole_is (goal.at.returns-then-not-word_ok c).At-loop ∙ rest-bad _ _ _ _ _ _ _ (omega arith) bad)

pub returns-then-sum-h : goal.returns-then-sum-h
returns-then-sum-h c =
    measured-broken _ _ _ (whole_is (goal.at.returns-then-sum-h c).At-loop ∙ rest_over _ _ _ _ _ _ _ (omega arith) (rw (c.text_len-sum.ensures, c.kind_of-kind.ensures, c.payload_of-payload.ensures.value) at c.if-sum-h.true))

pub loop-preserved : goal.loop-preserved
loop-preserved c =
    let a = c.args in
    let m = a.items.now in
    let k = a.h.items - c.loop.counter in
    let met = item_at m c.loop.at in
    let fewer : a.h.items - (c.loop.counter + 1) ≡ k - 1 = omega arith in
    let next = c.next_of-at.ensures in
    let units : c.text_len-sum.result ≡ len_of met.what = rw (c.kind_of-kind.ensures, c.payload_of-payload.ensures.value) at c.text_len-sum.ensures in
    let shown : c.shown_len-len.result ≡ shown_len met.flags.dead met.what = rw (c.flags_of.ensures.dead, c.kind_of-kind.ensures, c.payload_of-payload.ensures.value) at c.shown_len-len.ensures in
    let ok = sym (word-is (goal.at.loop-preserved c).After-word_ok) ∙ c.if-not-word_ok.false in (
      omega arith,
      rw (fewer, units, next) (sym (rest-step a.h.items _ _ _ k c.loop.at c.loop.sum (omega arith) c.if-at-h.false ok) ∙ c.loop.invariant.1),
      omega (arith, shown, units, shown-le met.flags.dead met.what),
      rw (fewer, next) (omega (arith, shown, visible-step k m c.loop.at (omega arith), c.loop.invariant.3)),
    )

-- at the end of the links both tests decide
ended : (c : At-loop) → c.args.h.items ≤ c.loop.counter → (
    let a = c.args in
    sound_of a.h a.items.now a.texts.units.now ≡ eqb c.loop.at END && eqb c.loop.sum a.h.units
    )
ended c none = whole_is c ∙ rest_end _ _ _ _ _ _ _ (omega arith)

pub returns-then-sum-h-2 : goal.returns-then-sum-h-2
returns-then-sum-h-2 c =
    measured-sound _ _ _ _
    (ended (goal.at.returns-then-sum-h-2 c).At-loop c.loop-test.false ∙ rw (eq-eqb _ _ c.if-at-eq-END.true, eq-eqb _ _ c.if-sum-h-2.true))
    (sym (visible-end _ _ _ _ (omega arith)) ∙ c.loop.invariant.3)

pub returns-else-at-eq-END : goal.returns-else-at-eq-END
returns-else-at-eq-END c =
    let no = ended (goal.at.returns-else-at-eq-END c).At-loop c.loop-test.false in
    measured-broken _ _ _ (
    no ∙ elim c.else-at-eq-END.branch [
      | else-at-eq-END-via-then-at-eq-END+else-sum-h-2 w ↦ and_no-right _ _ (ne_eqb _ _ w.if-sum-h-2.false)
      | else-at-eq-END-via-else-at-eq-END w ↦ and_no-left _ _ (ne_eqb _ _ w.if-at-eq-END.false)
    ]
    )

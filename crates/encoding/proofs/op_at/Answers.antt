-- `encoding::op_at` meets its contract. Assumes nothing.
use Prim.Native.Nat.{◌*◌}
use native.Mathlib.Omega.{arith}
use mathlib.Core.Path.{sym, ap, ◌∙◌}
use lib.ListN.{length-drop, take}
use lib.Seq.{take_all}
use Rattle.encoding.proofs.Parts.{from_chunk, at_place}
use Rattle.encoding.proofs.op_at.Goals as goal

pub returns : goal.returns
returns c =
    let w = c.args.words.now in
    let k = c.in_ok-word.ensures.cases in
    let l = c.in_ok-rest.ensures.lookup.0 in
    c.op_in.ensures
    ∙ from_chunk w c.in_ok-word.word.now (c.args.i * 8) (k.same ∙ ap (take 8) (l.2 ∙ take_all _ _ (omega (arith, length-drop (c.args.i * 8) w))))
    ∙ sym (at_place w c.args.i (omega (arith, k.enough, l.3)))

-- A newline that was found lies in front of the end.
use Rattle.std.proofs.Common.{sym, arith}
use Rattle.words.proofs.Moving.{whole-within}
use Rattle.calls.proofs.input.step.Goals as goal

pub whole-requires : goal.whole-requires
whole-requires g c =
    let w = c.args.p.waiting in
    whole-within c.args.buf.now _ _ _ w.order (omega (arith, w.within)) (sym c.in-Some.ensures)

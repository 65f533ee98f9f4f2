-- `assembling::marks::pending_of` meets its contract. Assumes nothing.
use mathlib.Core.Path.{sym, ◌∙◌}
use Rattle.attrs.specs.Packed.{env_of}
use Rattle.assembling.proofs.Pendings.{kept-has}
use Rattle.assembling.proofs.marks.pending_of.Goals as goal

pub returns-then-has : goal.returns-then-has
returns-then-has c =
    let a = c.args.a in
    let k = c.args.key in
    rw (c.pending_kept.ensures, c.get.ensures.is, c.in-true-true.is-0, c.in-true-true.is-1)
    (kept-has a.attrs k (env_of a.old k) (env_of a.current k) c.args.value (sym c.has.ensures ∙ c.if-has.true))

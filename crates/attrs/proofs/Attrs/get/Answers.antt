-- `attrs::Attrs::get` meets its contract.
use mathlib.Core.Path.{sym, ◌∙◌}
use native.Mathlib.Omega.{arith}
use Rattle.attrs.proofs.Slots.{env-past, env-clear, env-set}
use borrow.Author.Rules.{rules}
use Rattle.attrs.proofs.Attrs.get.Goals as goal
use Rattle.attrs.proofs.Attrs.get.Goals.{then-key-ge-KEYS-via-then-key-ge-KEYS, then-key-ge-KEYS-via-else-key-ge-KEYS+then-bit_at-eq0}

pub returns-then-key-ge-KEYS : goal.returns-then-key-ge-KEYS
returns-then-key-ge-KEYS c =
    elim c.then-key-ge-KEYS.branch [
      | then-key-ge-KEYS-via-then-key-ge-KEYS w ↦ search (rules, env-past)
      | then-key-ge-KEYS-via-else-key-ge-KEYS+then-bit_at-eq0 w ↦ record { is = sym (env-clear _ _ (omega arith)); small = omega arith }
    ]

pub returns : goal.returns
returns c =
    let a = c.args in
    record { is = c.from.ensures ∙ sym (env-set a.self a.key (omega arith) (omega arith)); small = search rules }

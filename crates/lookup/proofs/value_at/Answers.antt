-- `lookup::value_at` meets its contract. Assumes nothing.
use native.Mathlib.Omega.{arith}
use mathlib.Core.Path.{sym, ap, ◌∙◌}
use lib.ListN.{length}
use mir.Syntax.{w64}
use mir.Val.{SFits}
use mir.Facts.{to_z-of_z}
use Rattle.std.proofs.lemmas.Result.{MatchResult-at_ok}
use Rattle.entries.specs.Kind.{byte_of}
use Rattle.lookup.proofs.Numbers.{bool_shown, int_shown, other_shown, one_byte, eight_bytes}
use Rattle.lookup.proofs.value_at.Goals as goal

pub bounds-content-0 : goal.bounds-content-0
bounds-content-0 c =
    let kind = ap byte_of (sym c.in-Bool.is) ∙ c.in_ok-kind.ensures.1 in
    let long = ap length c.in_ok-kind.ensures.2 ∙ one_byte _ _ _ c.in_ok-kind.ensures.0 kind in
    omega arith

pub unwrap-requires : goal.unwrap-requires
unwrap-requires c =
    let kind = ap byte_of (sym c.in-Int.is) ∙ c.in_ok-kind.ensures.1 in
    c.try_into.ensures.0 (ap length c.in_ok-kind.ensures.2 ∙ eight_bytes _ _ _ c.in_ok-kind.ensures.0 kind)

pub returns-in-Bool : goal.returns-in-Bool
returns-in-Bool c =
    let kind = ap byte_of (sym c.in-Bool.is) ∙ c.in_ok-kind.ensures.1 in
    rw c.in_ok-kind.ensures.2 (sym (bool_shown _ _ _ c.in_ok-kind.ensures.0 kind))

pub returns-in-Int : goal.returns-in-Int
returns-in-Int c =
    let kind = ap byte_of (sym c.in-Int.is) ∙ c.in_ok-kind.ensures.1 in
    let bytes = (MatchResult-at_ok _ _ _ c.unwrap.ensures c.try_into.ensures.1).same ∙ c.in_ok-kind.ensures.2 in
    let fits : SFits w64 c.from_le_bytes.result = record { sfits = c.from_le_bytes.type_inv } in
    rw (to_z-of_z fits, c.from_le_bytes.ensures, bytes) (sym (int_shown _ _ _ c.in_ok-kind.ensures.0 kind))

pub returns-in_default : goal.returns-in_default
returns-in_default c = sym (other_shown _ _ _ c.in_ok-kind.ensures.0 _ c.in_ok-kind.ensures.1 c.in_default.not-Bool c.in_default.not-Int)

-- `lookup::string_bytes` meets its contract. Assumes nothing.
use mathlib.Core.Path.{sym, ap, ◌∙◌}
use Rattle.entries.specs.Kind.{byte_of}
use Rattle.lookup.proofs.Numbers.{string_shown, no_string}
use Rattle.lookup.proofs.string_bytes.Goals as goal

pub returns-in-String : goal.returns-in-String
returns-in-String c =
    let kind = ap byte_of (sym c.in-String.is) ∙ c.in-Some.ensures.1 in
    c.in-Some.ensures.2 ∙ sym (string_shown _ _ _ c.in-Some.ensures.0 kind).1

pub returns-in_default-kind : goal.returns-in_default-kind
returns-in_default-kind c = sym (no_string _ _ _ c.in-Some.ensures.0 _ c.in-Some.ensures.1 c.in_default-kind.not-String)

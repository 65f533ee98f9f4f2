-- `lookup::name_slots` meets its contract. Assumes nothing.
use Rattle.std.specs.Prelude.{◌≡◌, true, ltb}
use Rattle.table.proofs.Tables.{shown_where}
use Rattle.lookup.specs.Show.{given_name}
use Rattle.lookup.proofs.name_slots.Goals as goal

pub returns : goal.returns
unfolding given_name
returns c =
    let given = c.in_ok-slots.ensures in
    rw (c.then_some.ensures, given.0) (
    shown_where
    (λ slots. (ltb c.args.n c.args.h.names ≡ true) × (slots.now ≡ c.args.table.now))
    (ltb c.args.n c.args.h.names) _ (λ f. f) (λ t. (t, given.1))
    )

-- `table::ask_int` meets its contract. Assumes nothing.
use mathlib.Core.Path.{◌≡◌, ap, ◌∙◌}
use mir.Syntax.{w64}
use mir.Val.{of_z}
use mir.Facts.{to_z-of_z}
use Rattle.std.specs.Int.{to_le_bytes}
use Rattle.table.specs.Value.{kind_of, content_of}
use Rattle.entries.specs.Number.{low_bytes}
use Rattle.entries.proofs.Bytes.{low_is}
use Rattle.table.proofs.ask_int.Goals as goal

pub returns : goal.returns
unfolding kind_of content_of
returns c =
    let bytes : c.to_le_bytes-bytes.result ≡ low_bytes 8 (of_z w64 c.args.n) =
    c.to_le_bytes-bytes.ensures ∙ ap (λ z. to_le_bytes w64 (of_z w64 z)) (to_z-of_z c.ranges.n) ∙ low_is (of_z w64 c.args.n) in
    rw bytes at c.ask.ensures

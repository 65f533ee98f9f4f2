-- What an item makes of the set in force.
use Rattle.attrs.specs.Packed.{update_at}
use Rattle.attrs.specs.declared.Attrs.{Attrs}
use Rattle.rules.specs.Sheet.{What, text, embed, mark}

-- What is in force behind it.
unfoldable pub mark_on : Attrs → What → Attrs
mark_on a (text s n) = a
mark_on a (embed x) = a
mark_on a (mark k v) = (update_at a k v).attrs

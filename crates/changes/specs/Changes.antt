-- What an edit does at the place that its index gives.
use Rattle.attrs.specs.Packed.{says}
use Rattle.rules.specs.Sheet.{text, embed}
use Rattle.rules.specs.Places.{Move}
use Rattle.rules.specs.Edits.{plain_text, plain_embed, insert_with, format, remove_here}
use Rattle.layout.specs.declared.word.Content.TheVariants.{Text, Embed}
use Rattle.layout.specs.Word.{what_of}
use Rattle.arena.specs.Places.{InRange}
use Rattle.changes.specs.declared.change.Change.{Change}
use Rattle.changes.specs.declared.change.Change.TheVariants.{PlainText, PlainEmbed, With, Format, Remove}

-- The rule that a change follows.
unfoldable pub move_of : Change → Move
move_of (PlainText s n) = plain_text (text s n)
move_of (PlainEmbed e) = plain_embed (embed e)
move_of (With c a) = insert_with (what_of c) (says a)
move_of (Format n a) = format (says a) n
move_of (Remove n) = remove_here n

-- What is put in is in its range.
abbrev pub Ready : Change → Type 0
Ready (PlainText s n) = InRange (Text s n)
Ready (PlainEmbed e) = InRange (Embed e)
Ready (With c a) = InRange c
Ready (Format n a) = Unit {0}
Ready (Remove n) = Unit {0}

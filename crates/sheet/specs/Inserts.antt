-- Plain insertions and those with attributes, by one name: plain where there is no set.
use Rattle.std.specs.Prelude.{ℕ, List, Option, Some, None}
use Rattle.attrs.specs.declared.Attrs.{Attrs}
use Rattle.attrs.specs.Packed.{says}
use Rattle.rules.specs.Calls.{Call, insert_text, insert_text_with, insert_embed, insert_embed_with}
use Rattle.layout.specs.declared.word.Content.{Content}
use Rattle.layout.specs.declared.word.Content.TheVariants.{Text, Embed}
use Rattle.changes.specs.declared.change.Change.{Change}
use Rattle.changes.specs.declared.change.Change.TheVariants.{PlainText, PlainEmbed, With}

-- The call for text: plain, or with a set.
abbrev pub text_call : ℕ → List ℕ → Option Attrs → Call
text_call i us None = insert_text i us
text_call i us (Some a) = insert_text_with i us (says a)

-- The same for an embed.
abbrev pub embed_call : ℕ → ℕ → Option Attrs → Call
embed_call i e None = insert_embed i e
embed_call i e (Some a) = insert_embed_with i e (says a)

-- What each does at its place: with its set, or plain ..
abbrev pub with_or_plain : Content → Change → Option Attrs → Change
with_or_plain c p None = p
with_or_plain c p (Some a) = With c a

-- .. a text of n units from unit s on ..
abbrev pub text_change : ℕ → ℕ → Option Attrs → Change
text_change s n a = with_or_plain (Text s n) (PlainText s n) a

-- .. or an embed.
abbrev pub embed_change : ℕ → Option Attrs → Change
embed_change e a = with_or_plain (Embed e) (PlainEmbed e) a

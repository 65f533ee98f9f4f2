-- `carrying::turns::insert_part` meets its contract: a text or an embed. Assumes nothing.
use Rattle.attrs.specs.Packed.{says}
use Rattle.carrying.proofs.Carrying.{embed-put, by_part, part_room}
use Rattle.carrying.proofs.turns.insert_part.Goals as goal

pub insert_text-requires : goal.insert_text-requires
insert_text-requires c = (c.requires.0, c.requires.1, part_room c.args.used c.in-Text.is c.requires.2)

pub returns-in-Text : goal.returns-in-Text
returns-in-Text c = by_part _ _ c.in-Text.is c.insert_text.ensures

pub returns-in-Embed : goal.returns-in-Embed
returns-in-Embed c = by_part _ _ c.in-Embed.is (embed-put _ (says c.args.attrs) c.insert.ensures)

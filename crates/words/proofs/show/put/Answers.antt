use Rattle.words.proofs.Writing.{put-wrote}
use Rattle.words.proofs.show.put.Goals as goal

pub returns : goal.returns
returns c = put-wrote c.args.out.now c.args.text.now _ c.args.n c.requires c.copy_from_slice.ensures.after

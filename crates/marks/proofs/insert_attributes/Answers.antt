-- `marks::insert_attributes` meets its contract. Assumes nothing.
use Rattle.marks.proofs.Opens.{opens}
use Rattle.marks.proofs.insert_attributes.Goals as goal

pub returns : goal.returns
returns c = opens c.requires.0 c.args.attrs _ _ c.differing-differing.ensures c.remembered-remembered.ensures c.put_marks.ensures

use Rattle.crs_text.proofs.rows.TreeLemmas.{formed}
use Rattle.crs_text.proofs.items.Items.formed.Goals as goal

pub returns : goal.returns
returns c = formed _ c.args.self.now c.args._id c.self.invariant.formed c.self.view_is c.requires

use Rattle.crs_group.proofs.KnownLemmas.{put-under}
use Rattle.crs_group.proofs.catalogue.Catalogue.put_and_remember.Goals as goal

pub remember-requires : goal.remember-requires
remember-requires c =
    rw c.put.ensures.level
    (put-under c.args.self.now.level c.args.text.now c.args.canon c.args.line c.args.self.now.groups
    c.put.new.self.groups c.in_ok-placed.placed c.requires.canonical c.requires.level c.in_ok-placed.ensures.groups)

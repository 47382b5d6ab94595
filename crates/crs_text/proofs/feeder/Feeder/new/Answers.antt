use Rattle.crs_text.proofs.settled.FeedingLemmas.{fed_start}
use Rattle.crs_text.proofs.feeder.Feeder.new.Goals as goal

pub invariant_of-result : goal.invariant_of-result
invariant_of-result c = fed_start c.new.result.items c.new-3.result c.new.ensures.items c.new-3.ensures

use Rattle.crs_writer.proofs.ChainLemmas.{fewer-left, first-said, none-left}
use Rattle.crs_writer.proofs.members.ChainMembersPart.next.Goals as goal

pub returns-in-None : goal.returns-in-None
returns-in-None g c = none-left _ _ _ _ _ c.in-None.is

pub returns-in-Some : goal.returns-in-Some
returns-in-Some g c = (
  c.later-at.ensures.holds,
  fewer-left _ _ _ _ _ _ c.in-Some.is c.later-at.ensures.all,
  first-said (g.T.ReadAs.Reads c.args.self.now.class) _ _ _ _ _ _ c.in-Some.is c.later-at.ensures.all,
)

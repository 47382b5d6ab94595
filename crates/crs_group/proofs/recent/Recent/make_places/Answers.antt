use Rattle.crs_group.proofs.KnownLemmas.{unfilled-known}
use Rattle.crs_group.proofs.recent.Recent.make_places.Goals as goal

pub returns : goal.returns
returns c level texts known = unfilled-known level texts c.in-Ok.lines.items c.in-Ok.ensures

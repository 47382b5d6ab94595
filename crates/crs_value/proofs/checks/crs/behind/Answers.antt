use Rattle.crs_value.specs.Checks.{IsRepeated}
use Rattle.crs_value.proofs.found.ArgumentLemmas.{found-is, all-shaped}
use Rattle.crs_value.proofs.checked.CheckLemmas.{found-any}
use Rattle.crs_value.proofs.checks.crs.behind.Goals as goal

pub any_from-requires-clause-shaped : goal.any_from-requires-clause-shaped
any_from-requires-clause-shaped c = all-shaped c.args.class _ _ (found-is c.args.items.now c.args.parent c.args.class _ c.later-next.result c.later-next.ensures) c.requires.shaped

pub returns : goal.returns
returns c = found-any IsRepeated c.args.items.now c.args.parent c.args.class _ c.later-next.result c.any_from.result c.later-next.ensures c.any_from.ensures

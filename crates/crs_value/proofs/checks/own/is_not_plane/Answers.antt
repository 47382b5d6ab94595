use Rattle.crs_value.specs.inner.Arguments.{item_at}
use Rattle.crs_value.proofs.checked.ComponentLemmas.{plane-test}
use Rattle.crs_value.proofs.checks.own.is_not_plane.Goals as goal

pub returns : goal.returns
returns c = plane-test c.denotes_one.ensures (item_at c.args.items.now c.args.cs) c.number.result c.is_whole.result c.number.ensures c.is_whole.ensures

use Rattle.std.proofs.Common.{refl}
use Rattle.crs_value.specs.inner.Arguments.{item_at}
use Rattle.crs_value.proofs.checked.CheckLemmas.{count-none}
use Rattle.crs_value.proofs.checks.crs.bad_count.Goals as goal

pub returns-then-is_whole : goal.returns-then-is_whole
returns-then-is_whole c =
    count-none c.denotes_one.ensures c.args.axes (item_at c.args.items.now c.args.cs) c.args.dimension.now c.requires.dimension (c.if-is_whole.ensures.0 refl)

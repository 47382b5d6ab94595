use Rattle.std.proofs.Common.{refl}
use Rattle.crs_value.specs.inner.Arguments.{item_at}
use Rattle.crs_value.proofs.checked.CheckLemmas.{above-none}
use Rattle.crs_value.proofs.checks.own.AboveZeroCheck.check.Goals as goal

pub returns-then-is_above_zero : goal.returns-then-is_above_zero
returns-then-is_above_zero c =
    above-none c.denotes_one.ensures (item_at c.args.items.now c.args.id) c.decimal_of-value.result c.decimal_of-value.ensures (c.if-is_above_zero.ensures.0 refl)

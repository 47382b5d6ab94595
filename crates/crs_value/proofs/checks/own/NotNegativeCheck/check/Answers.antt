use Rattle.std.proofs.Common.{sym}
use Rattle.crs_value.specs.inner.Arguments.{item_at}
use Rattle.crs_value.proofs.checked.CheckLemmas.{negative-none}
use Rattle.crs_value.proofs.checks.own.NotNegativeCheck.check.Goals as goal

pub returns-else-is_negative : goal.returns-else-is_negative
returns-else-is_negative c =
    negative-none c.denotes_one.ensures (item_at c.args.items.now c.args.id) c.decimal_of-value.result c.decimal_of-value.ensures (sym c.if-is_negative.ensures.value)

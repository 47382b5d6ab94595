use Rattle.std.proofs.Common.{sym, ◌∙◌}
use Rattle.crs_value.specs.inner.Arguments.{item_at}
use Rattle.crs_value.proofs.walk.LayoutLemmas.{behind-name}
use Rattle.crs_value.proofs.judging.quick_checks.word_behind_name.Goals as goal

pub returns : goal.returns
returns c =
    behind-name c.args.items.now (item_at c.args.items.now c.args.axis) c.in_ok-name.name c.in_ok-word.word c.in_ok-name.ensures (sym c.stands_as.ensures ∙ c.if-not-stands_as.false)
    c.in_ok-word.ensures (sym c.stands_as-2.ensures ∙ c.if-not-stands_as-2.false)

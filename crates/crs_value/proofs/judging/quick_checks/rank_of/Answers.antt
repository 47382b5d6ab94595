use Rattle.std.proofs.Common.{sym, ◌∙◌}
use Rattle.crs_shape.specs.declared.class.Class.TheVariants as class
use Rattle.crs_value.specs.inner.Arguments.{item_at}
use Rattle.crs_value.proofs.walk.RestLemmas.{once-none, once-some}
use Rattle.crs_value.proofs.judging.quick_checks.rank_of.Goals as goal

pub returns-then-stands_as : goal.returns-then-stands_as
returns-then-stands_as c = once-some c.args.parent (item_at c.args.items.now c.args.id) class.Scope (sym c.stands_as.ensures ∙ c.if-stands_as.true)

pub returns-then-stands_as-2 : goal.returns-then-stands_as-2
returns-then-stands_as-2 c = once-some c.args.parent (item_at c.args.items.now c.args.id) class.Area (sym c.stands_as-else-stands_as.ensures ∙ c.if-stands_as-2.true)

pub returns-then-stands_as-3 : goal.returns-then-stands_as-3
returns-then-stands_as-3 c = once-some c.args.parent (item_at c.args.items.now c.args.id) class.BoundingBox (sym c.stands_as-else-stands_as-2.ensures ∙ c.if-stands_as-3.true)

pub returns-then-stands_as-4 : goal.returns-then-stands_as-4
returns-then-stands_as-4 c = once-some c.args.parent (item_at c.args.items.now c.args.id) class.VerticalExtent (sym c.stands_as-else-stands_as-3.ensures ∙ c.if-stands_as-4.true)

pub returns-then-stands_as-5 : goal.returns-then-stands_as-5
returns-then-stands_as-5 c = once-some c.args.parent (item_at c.args.items.now c.args.id) class.Remark (sym c.stands_as-else-stands_as-4.ensures ∙ c.if-stands_as-5.true)

pub returns-else-stands_as-5 : goal.returns-else-stands_as-5
returns-else-stands_as-5 c = λ d ranked is.
    absurd (once-none c.args.parent (item_at c.args.items.now c.args.id) (sym c.stands_as.ensures ∙ c.if-stands_as.false) (sym c.stands_as-else-stands_as.ensures ∙ c.if-stands_as-2.false)
    (sym c.stands_as-else-stands_as-2.ensures ∙ c.if-stands_as-3.false) (sym c.stands_as-else-stands_as-3.ensures ∙ c.if-stands_as-4.false) (sym c.stands_as-else-stands_as-4.ensures ∙ c.if-stands_as-5.false) d ranked is)

use Rattle.crs_shape.specs.declared.class.Class.TheVariants as class
use Rattle.crs_value.specs.inner.Arguments.{item_at}
use Rattle.crs_value.proofs.found.ArgumentLemmas.{first-shaped}
use Rattle.crs_value.proofs.checked.CheckLemmas.{this-test}
use Rattle.crs_value.proofs.checks.axes.has_this.Goals as goal

pub number-requires-clause-shaped : goal.number-requires-clause-shaped
number-requires-clause-shaped c = first-shaped _ class.Axis class.Order _ c.in-Some.order c.requires.shaped c.in-Some.ensures

pub returns-in-Some : goal.returns-in-Some
returns-in-Some c =
    this-test c.denotes_one.ensures _ (item_at c.args.items.now c.args.axis) c.in-Some.order c.number.result c.args.value.now c.same_value.result c.in-Some.ensures c.number.ensures
    c.same_value.ensures

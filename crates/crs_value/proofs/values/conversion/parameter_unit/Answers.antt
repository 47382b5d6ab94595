use Rattle.crs_shape.specs.declared.class.Class.TheVariants as class
use Rattle.crs_value.specs.inner.Cursor.{item}
use Rattle.crs_value.specs.inner.Arguments.{item_at}
use Rattle.crs_value.proofs.found.ArgumentLemmas.{first-sound}
use Rattle.crs_value.proofs.found.ConversionLemmas.{chosen, none-chosen}
use Rattle.crs_value.proofs.values.conversion.parameter_unit.Goals as goal

pub read-requires-clause-sound : goal.read-requires-clause-sound
read-requires-clause-sound c = first-sound c.args.node.now.items.now class.Parameter _ (item c.args.node.now) c.in-Some.id c.requires.sound c.in-Some.ensures

pub returns-in-Some : goal.returns-in-Some
returns-in-Some c =
    chosen (item c.args.node.now) (item_at c.args.node.now.items.now c.in-Some.id) _ c.loop-class.class-index _ _ c.loop-class.invariant c.loop-class-test.true c.in-Some.ensures.0
    c.in_ok-read.ensures

pub returns : goal.returns
returns c = none-chosen (item c.args.node.now) c.loop-class.class-index c.loop-class.invariant c.loop-class-test.false

use Rattle.crs_shape.specs.declared.class.Class.TheVariants as class
use Rattle.crs_value.specs.Checks.{IsUnsteady}
use Rattle.crs_value.proofs.found.ArgumentLemmas.{found-shaped}
use Rattle.crs_value.proofs.checked.CheckLemmas.{found-any}
use Rattle.crs_value.proofs.checked.DynamicLemmas.{bad-beside}
use Rattle.crs_value.specs.inner.Cursor.{item}
use Rattle.crs_value.proofs.checks.crs.bad_dynamic.Goals as goal

pub any_from-requires-clause-shaped : goal.any_from-requires-clause-shaped
any_from-requires-clause-shaped c = found-shaped _ _ class.Dynamic _ _ c.requires.shaped c.requires.found

pub returns : goal.returns
returns c =
    bad-beside c.args.node.now.class (item c.args.node.now) c.any_from.result (c.has_ensemble.ensures.0 c.if-not-has_ensemble.false)
    (found-any IsUnsteady c.args.node.now.items.now c.args.node.now.class class.Dynamic _ c.args.dynamic c.any_from.result c.requires.found c.any_from.ensures)

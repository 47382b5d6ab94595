use Rattle.std.proofs.Common.{take, drop}
use Rattle.crs_text.specs.inner.Prelude.{arguments}
use Rattle.crs_shape.specs.declared.class.Class.TheVariants as class
use Rattle.crs_value.specs.Checks.{NotAbove, IsNegative, AnyOf}
use Rattle.crs_value.specs.Reading.{those}
use Rattle.crs_value.specs.inner.Arguments.{item_at}
use Rattle.crs_value.proofs.found.ArgumentLemmas.{first-shaped}
use Rattle.crs_value.proofs.checked.CheckLemmas.{later-shaped, any-first, any-later}
use Rattle.crs_value.proofs.checked.LeastLemmas.{either-is}
use Rattle.crs_value.proofs.checks.own.ellipsoid.Goals as goal

pub check-requires-clause-shaped : goal.check-requires-clause-shaped
check-requires-clause-shaped c = first-shaped _ class.Ellipsoid class.Number _ c.in_ok-found.found c.requires.shaped c.in_ok-found.ensures

pub any_from-requires-clause-shaped : goal.any_from-requires-clause-shaped
any_from-requires-clause-shaped c =
    later-shaped _ class.Ellipsoid class.Number _ c.in_ok-found.found c.later-next.result c.requires.shaped c.in_ok-found.ensures c.later-next.ensures

pub returns : goal.returns
returns c =
    let tree = c.args.items.now in
    let numbers = those class.Ellipsoid class.Number (arguments (item_at tree c.args.id)) in
    either-is (AnyOf NotAbove (take 1 numbers)) (AnyOf IsNegative (drop 1 numbers)) _ _ _ c.lesser.ensures
    (any-first NotAbove tree class.Ellipsoid class.Number numbers c.in_ok-found.found c.check.result c.in_ok-found.ensures c.check.ensures)
    (any-later IsNegative tree class.Ellipsoid class.Number numbers c.in_ok-found.found c.later-next.result c.any_from.result c.in_ok-found.ensures c.later-next.ensures c.any_from.ensures)

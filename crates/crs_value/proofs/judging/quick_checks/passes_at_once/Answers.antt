use Rattle.crs_value.specs.inner.Arguments.{item_at}
use Rattle.crs_value.proofs.walk.LayoutLemmas.{axes-shaped, laid-passes, system-shaped}
use Rattle.crs_value.proofs.judging.quick_checks.passes_at_once.Goals as goal

pub type_of-requires-clause-shaped : goal.type_of-requires-clause-shaped
type_of-requires-clause-shaped c =
    system-shaped _ _ (item_at c.args.items.now c.args.id) _ c.in-Some.cs c.requires.shaped c.requires.laid c.in-Some.is (c.is_only.ensures c.if-not-is_only.false)

pub axes_until-requires-clause-shaped : goal.axes_until-requires-clause-shaped
axes_until-requires-clause-shaped c = axes-shaped _ _ (item_at c.args.items.now c.args.id) _ c.requires.shaped c.requires.laid

pub head_fits-requires-clause-shaped : goal.head_fits-requires-clause-shaped
head_fits-requires-clause-shaped c =
    system-shaped _ _ (item_at c.args.items.now c.args.id) _ c.in-Some.cs c.requires.shaped c.requires.laid c.in-Some.is (c.is_only.ensures c.if-not-is_only.false)

pub returns : goal.returns
returns c = λ yes.
    laid-passes c.denotes_one.ensures c.same_number_is_equivalence.ensures.symmetric c.same_number_is_equivalence.ensures.transitive _ _ _
    c.args.layout c.in-Some.cs c.in-Some-type_of.system_type c.in-Some-axes_until.axes c.in-Some-shared_unit.shared c.requires.laid c.in-Some.is (c.is_only.ensures c.if-not-is_only.false)
    c.in-Some-type_of.ensures c.in-Some-axes_until.ensures c.in-Some-shared_unit.ensures.unit (c.head_fits.ensures c.if-not-head_fits.false) (c.is_ordered.ensures c.if-not-is_ordered.false)
    (c.units_fit.ensures c.if-not-units_fit.false) (c.is_ascending.ensures yes)

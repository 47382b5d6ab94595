use Rattle.crs_shape.specs.declared.unit_kind.UnitKind.TheVariants as kinds
use Rattle.crs_same.specs.inner.Prelude.{optional}
use Rattle.crs_explain.proofs.TurnedLemmas.{set-of}
use Rattle.crs_explain.proofs.laws.exchanged_parameters_are_told_alike.Goals as goal

pub returns : goal.returns
returns c level =
    set-of level c.same_value_is_equivalence.ensures.symmetric
    (optional (c.same_unit_is_equivalence.ensures kinds.Plain level)).symmetric (c.same_idents_is_equivalence.ensures level).symmetric

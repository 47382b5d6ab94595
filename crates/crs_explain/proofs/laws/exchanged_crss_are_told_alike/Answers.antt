use Rattle.crs_shape.specs.declared.unit_kind.UnitKind.TheVariants as kinds
use Rattle.crs_same.specs.inner.Prelude.{optional}
use Rattle.crs_explain.proofs.TurnedLemmas.{crs-of, in-order}
use Rattle.crs_explain.proofs.laws.exchanged_crss_are_told_alike.Goals as goal

pub returns-clause-texts : goal.returns-clause-texts
returns-clause-texts c level a b =
    crs-of level c.same_value_is_equivalence.ensures.symmetric
    (optional (c.same_unit_is_equivalence.ensures kinds.Plain level)).symmetric (c.same_idents_is_equivalence.ensures level).symmetric
    a b (c.differences_are_exchanged.ensures level a b)

pub returns-clause-ordered : goal.returns-clause-ordered
returns-clause-ordered c words level a b ordered (texts, are, order) = (
  _,
  crs-of level c.same_value_is_equivalence.ensures.symmetric
      (optional (c.same_unit_is_equivalence.ensures kinds.Plain level)).symmetric (c.same_idents_is_equivalence.ensures level).symmetric
      a b (c.differences_are_exchanged.ensures level a b) texts are,
  in-order words texts ordered order,
)

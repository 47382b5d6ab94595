use Rattle.std.proofs.Common.{subst}
use Rattle.crs_writer.specs.inner.Prelude.{HaveOneTextWhereSame}
use Rattle.crs_canon.proofs.SetSameLemmas.{by-members}
use Rattle.crs_canon.proofs.set_view.Set.laws.Goals as goal

pub returns-clause-equal : goal.returns-clause-equal
returns-clause-equal g c level =
    let Same = g.T.Canonical.Same level in
    let Spells = g.T.Canonical.IsSpelling level in
    subst (λ a. HaveOneTextWhereSame Same Spells a c.args.other.now) c.self.view_is
    (subst (λ b. HaveOneTextWhereSame Same Spells c.self.inside.members.now b) c.other.view_is
    (by-members Same Spells _ _ c.texts_are_in_order.ensures.one
    (λ member has. c.kind_has_law.ensures member has level _ _ c.are_spelled.ensures.values c.are_spelled-2.ensures.values)
    (λ member has. c.kind_has_law-2.ensures member has level _ _ c.are_spelled.ensures.values c.are_spelled-2.ensures.values)))

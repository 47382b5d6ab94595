use Rattle.std.proofs.Common.{[], ◌∷◌}
use Rattle.crs_shape.specs.declared.class.Class.TheVariants as class
use Rattle.crs_value.specs.inner.Prelude.{ReadsEllipsoid, ReadsEnsemble, ReadsNamed}
use Rattle.crs_normal.specs.inner.Prelude.{ensemble_text}
use Rattle.crs_writer.proofs.FoundLemmas.{all-said, first-said, one-found}
use Rattle.crs_writer.proofs.FlatLemmas.{written}
use Rattle.crs_writer.proofs.PieceLemmas.{two}
use Rattle.crs_writer.proofs.spelling.frame.write_ensemble_of.Goals as goal

pub returns : goal.returns
returns c = written c.write_ensemble.result _ _ _ c.write_ensemble.ensures (λ w e one.
    let r = one-found ReadsEnsemble c.args.node.now c.in-Some.found c.args.class _ c.in-Some.ensures one in
    two _ (44 ∷ []) (ensemble_text c.args.level e) _ _ c.in_ok-append.ensures
    (w e (c.text.ensures e.name r.name)
    (all-said ReadsNamed class.Member _ _ _ _ c.all-members.ensures.class c.all-members.ensures.all r.members)
    (first-said ReadsEllipsoid c.in-Some.found class.Ellipsoid _ _ _ c.first-ellipsoid.ensures c.as_ref.ensures.value r.ellipsoid)
    (c.one_number-accuracy.ensures e.accuracy r.accuracy) r.identifiers))

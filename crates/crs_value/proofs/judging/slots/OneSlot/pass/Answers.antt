use Rattle.std.proofs.Common.{refl, ap, Some}
use Rattle.crs_shape.specs.inner.Prelude.{one_of}
use Rattle.crs_value.proofs.found.ArgumentLemmas.{has-some}
use Rattle.crs_value.proofs.walk.JudgedLemmas.{passed-short, passed-wrong, passed-one, passed-stop}
use Rattle.crs_value.proofs.walk.LeftLemmas.{leaves-judged}
use Rattle.crs_value.proofs.judging.slots.OneSlot.pass.Goals as goal

pub returns-in_default-clause-passed : goal.returns-in_default-clause-passed
returns-in_default-clause-passed g c = passed-short _ _ _ (one_of g.P.Part.classes) _ _ _ refl c.in_default.is c.stop_short.ensures

pub returns-in-None-clause-passed : goal.returns-in-None-clause-passed
returns-in-None-clause-passed g c =
    passed-wrong _ _ _ (one_of g.P.Part.classes) _ _ _ _ _ _ refl c.in-Some.is (has-some _ _ _ c.in-Some.is c.requires.holds) refl c.in-None.ensures c.stop_at.ensures

pub returns-in-Some-true-clause-leaves : goal.returns-in-Some-true-clause-leaves
returns-in-Some-true-clause-leaves g c =
    leaves-judged _ _ (one_of g.P.Part.classes) _ _ _ _ _ _ c.in-Some.is (has-some _ _ _ c.in-Some.is c.requires.holds) c.next.ensures (ap Some c.in-Some-true.field-0-test) c.in-Some-true.ensures

pub returns-in-Some-true-clause-passed : goal.returns-in-Some-true-clause-passed
returns-in-Some-true-clause-passed g c =
    passed-one _ _ _ (one_of g.P.Part.classes) _ _ _ _ _ _ refl c.in-Some.is (has-some _ _ _ c.in-Some.is c.requires.holds) c.next.ensures (ap Some c.in-Some-true.field-0-test) c.in-Some-true.ensures

pub returns-in-Some-false-clause-passed : goal.returns-in-Some-false-clause-passed
returns-in-Some-false-clause-passed g c =
    passed-stop _ _ _ (one_of g.P.Part.classes) _ _ _ _ _ c.in-Some.is (has-some _ _ _ c.in-Some.is c.requires.holds) (ap Some c.in-Some-false.field-0-test) c.in-Some-false.ensures

use Rattle.crs_shape.specs.inner.Prelude.{some_of}
use Rattle.crs_value.proofs.walk.JudgedLemmas.{passed-none, passed-some}
use Rattle.crs_value.proofs.walk.LeftLemmas.{leaves-again}
use Rattle.crs_value.proofs.judging.slots.OneOrMoreSlot.pass.Goals as goal

pub returns-in-None-clause-passed : goal.returns-in-None-clause-passed
returns-in-None-clause-passed g c = passed-none _ _ _ g.P.Part.classes _ _ _ c.in-None.ensures.passed

pub returns-in-Some-clause-leaves : goal.returns-in-Some-clause-leaves
returns-in-Some-clause-leaves g c =
    leaves-again c.args.parent.items.now c.args.parent.class (some_of g.P.Part.classes) c.args.at c.in-Some.next c.pass-in-Some.result c.in-Some.ensures.leaves c.pass-in-Some.ensures.leaves

pub returns-in-Some-clause-passed : goal.returns-in-Some-clause-passed
returns-in-Some-clause-passed g c = passed-some _ _ _ g.P.Part.classes _ c.in-Some.next _ _ c.pass-in-Some.result _ c.in-Some.ensures.passed c.pass-in-Some.ensures.passed

use Rattle.std.proofs.Common.{refl, ap, None, Some}
use Rattle.crs_shape.specs.inner.Prelude.{optional_of}
use Rattle.crs_value.proofs.found.ArgumentLemmas.{has-some}
use Rattle.crs_value.proofs.walk.JudgedLemmas.{passed-free, passed-skip, passed-one, passed-stop}
use Rattle.crs_value.proofs.walk.LeftLemmas.{leaves-at, leaves-judged, leaves-none}
use Rattle.crs_value.proofs.judging.slots.OptionalSlot.pass.Goals as goal

pub returns-in_default-clause-leaves : goal.returns-in_default-clause-leaves
returns-in_default-clause-leaves g c =
    let slot = optional_of g.P.Part.classes in leaves-at c.args.parent.items.now c.args.parent.class slot _ None None c.in_default.is (leaves-none c.args.parent.items.now c.args.parent.class slot None)

pub returns-in_default-clause-passed : goal.returns-in_default-clause-passed
returns-in_default-clause-passed g c = passed-free _ _ _ (optional_of g.P.Part.classes) _ _ refl c.in_default.is

pub returns-in-None-clause-leaves : goal.returns-in-None-clause-leaves
returns-in-None-clause-leaves g c =
    let slot = optional_of g.P.Part.classes in leaves-at c.args.parent.items.now c.args.parent.class slot _ _ (Some c.in-Some.id) c.in-Some.is (leaves-none c.args.parent.items.now c.args.parent.class slot (Some c.in-Some.id))

pub returns-in-None-clause-passed : goal.returns-in-None-clause-passed
returns-in-None-clause-passed g c = passed-skip _ _ _ (optional_of g.P.Part.classes) _ _ _ _ _ refl c.in-Some.is (has-some _ _ _ c.in-Some.is c.requires.holds) refl c.in-None.ensures

pub returns-in-Some-true-clause-leaves : goal.returns-in-Some-true-clause-leaves
returns-in-Some-true-clause-leaves g c =
    leaves-judged _ _ (optional_of g.P.Part.classes) _ _ _ _ _ _ c.in-Some.is (has-some _ _ _ c.in-Some.is c.requires.holds) c.next.ensures (ap Some c.in-Some-true.field-0-test) c.in-Some-true.ensures

pub returns-in-Some-true-clause-passed : goal.returns-in-Some-true-clause-passed
returns-in-Some-true-clause-passed g c =
    passed-one _ _ _ (optional_of g.P.Part.classes) _ _ _ _ _ _ refl c.in-Some.is (has-some _ _ _ c.in-Some.is c.requires.holds) c.next.ensures (ap Some c.in-Some-true.field-0-test) c.in-Some-true.ensures

pub returns-in-Some-false-clause-passed : goal.returns-in-Some-false-clause-passed
returns-in-Some-false-clause-passed g c =
    passed-stop _ _ _ (optional_of g.P.Part.classes) _ _ _ _ _ c.in-Some.is (has-some _ _ _ c.in-Some.is c.requires.holds) (ap Some c.in-Some-false.field-0-test) c.in-Some-false.ensures

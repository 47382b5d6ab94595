use Rattle.std.proofs.Common.{refl, ap, None, Some}
use Rattle.crs_shape.specs.inner.Prelude.{any_of}
use Rattle.crs_value.proofs.found.ArgumentLemmas.{has-some, holds_at}
use Rattle.crs_value.proofs.walk.JudgedLemmas.{passed-free, passed-skip, passed-stop, reaches-end, reaches-on}
use Rattle.crs_value.proofs.walk.LeftLemmas.{leaves-past, leaves-to}
use Rattle.crs_value.proofs.judging.slots.AnySlot.pass.Goals as goal

pub returns-in-None-clause-leaves : goal.returns-in-None-clause-leaves
returns-in-None-clause-leaves g c =
    leaves-to c.args.parent.items.now c.args.parent.class (any_of g.P.Part.classes) c.args.at c.loop-next.next (Some c.in-Some.id) c.in-Some.is c.loop-next.invariant.leaves

pub returns-in-None-clause-passed : goal.returns-in-None-clause-passed
returns-in-None-clause-passed g c =
    reaches-end _ _ _ (any_of g.P.Part.classes) _ c.loop-next.next _ c.loop-next.found (Some (Some c.in-Some.id)) _ c.loop-next.invariant.reaches
    (passed-skip _ _ _ (any_of g.P.Part.classes) _ _ _ _ _ refl c.in-Some.is (has-some _ _ _ c.in-Some.is c.loop-next.invariant.holds) refl c.in-None.ensures)

pub returns-in-Some-false-clause-passed : goal.returns-in-Some-false-clause-passed
returns-in-Some-false-clause-passed g c =
    reaches-end _ _ _ (any_of g.P.Part.classes) _ c.loop-next.next _ c.loop-next.found None _ c.loop-next.invariant.reaches
    (passed-stop _ _ _ (any_of g.P.Part.classes) _ _ _ _ _ c.in-Some.is (has-some _ _ _ c.in-Some.is c.loop-next.invariant.holds) (ap Some c.in-Some-false.field-0-test) c.in-Some-false.ensures)

pub loop-next-preserved : goal.loop-next-preserved
loop-next-preserved g c =
    let has = has-some _ _ _ c.in-Some.is c.loop-next.invariant.holds in
    record {
      holds = holds_at _ _ _ c.next-next.ensures;
      leaves = leaves-past c.args.parent.items.now c.args.parent.class (any_of g.P.Part.classes) c.args.at _ _ _ _ _ _ c.in-Some.is has c.next-next.ensures (ap Some c.in-Some-true.field-0-test)
          c.in-Some-true.ensures c.loop-next.invariant.leaves;
      reaches = reaches-on _ _ _ (any_of g.P.Part.classes) _ _ _ _ _ _ _ _ refl refl c.in-Some.is has c.next-next.ensures (ap Some c.in-Some-true.field-0-test)
          c.in-Some-true.ensures c.loop-next.invariant.reaches;
    }

pub returns-clause-leaves : goal.returns-clause-leaves
returns-clause-leaves g c = leaves-to c.args.parent.items.now c.args.parent.class (any_of g.P.Part.classes) c.args.at c.loop-next.next None c.in_default.is c.loop-next.invariant.leaves

pub returns-clause-passed : goal.returns-clause-passed
returns-clause-passed g c =
    reaches-end _ _ _ (any_of g.P.Part.classes) _ c.loop-next.next _ c.loop-next.found (Some None) _ c.loop-next.invariant.reaches
    (passed-free _ _ _ (any_of g.P.Part.classes) _ _ refl c.in_default.is)

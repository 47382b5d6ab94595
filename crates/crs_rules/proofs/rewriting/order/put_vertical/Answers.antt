use Rattle.std.proofs.Common.{subst, sym}
use Rattle.crs_value.specs.inner.Prelude.{VerticalParts, IsVertical, SystemParts}
use Rattle.crs_rules.proofs.FormOrderLemmas.{vertical-put}
use Rattle.crs_rules.proofs.rewriting.order.put_vertical.Goals as goal

pub invariant_of-value : goal.invariant_of-value
invariant_of-value c =
    let v = c.value.inside in
    let old : VerticalParts = record { name = v.name.now; dynamic = v.dynamic; frame = v.frame; system = v.system; geoid_models = v.geoid_models; tail = v.tail } in
    let (text, are) = rw (← c.value.view_is) at c.requires in
    subst (λ (s : SystemParts). IsVertical (record old { system = s })) (sym (c.put.ensures text are)) (vertical-put text old c.value.invariant)

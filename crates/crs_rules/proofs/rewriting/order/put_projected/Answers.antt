use Rattle.std.proofs.Common.{subst, sym}
use Rattle.crs_value.specs.inner.Prelude.{ProjectedParts, IsProjected, SystemParts}
use Rattle.crs_rules.proofs.FormOrderLemmas.{projected-put}
use Rattle.crs_rules.proofs.rewriting.order.put_projected.Goals as goal

pub invariant_of-value : goal.invariant_of-value
invariant_of-value c =
    let v = c.value.inside in
    let old : ProjectedParts = record { name = v.name.now; base = v.base; conversion = v.conversion; system = v.system; tail = v.tail } in
    let (text, are) = rw (← c.value.view_is) at c.requires in
    subst (λ (s : SystemParts). IsProjected (record old { system = s })) (sym (c.put.ensures text are)) (projected-put text old c.value.invariant)

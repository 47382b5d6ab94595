use Rattle.std.proofs.Common.{subst, sym}
use Rattle.crs_value.specs.inner.Prelude.{GeodeticParts, IsGeodetic, SystemParts}
use Rattle.crs_rules.proofs.FormOrderLemmas.{geodetic-put}
use Rattle.crs_rules.proofs.rewriting.order.put_geodetic.Goals as goal

pub invariant_of-value : goal.invariant_of-value
invariant_of-value c =
    let v = c.value.inside in
    let old : GeodeticParts = record { name = v.name.now; dynamic = v.dynamic; frame = v.frame; meridian = v.meridian; system = v.system; tail = v.tail } in
    let (text, are) = rw (← c.value.view_is) at c.requires in
    subst (λ (s : SystemParts). IsGeodetic (record old { system = s })) (sym (c.put.ensures text are)) (geodetic-put text old c.value.invariant)

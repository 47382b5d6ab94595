use Rattle.crs_value.specs.inner.Prelude.{IsHorizontal, IsVertical}
use Rattle.crs_rules.proofs.FormOrderLemmas.{across-put, vertical-put}
use Rattle.crs_rules.proofs.rewriting.order.put_compound.Goals as goal

pub invariant_of-value : goal.invariant_of-value
invariant_of-value c =
    let k = c.value.invariant in
    let asked = rw (← c.value.view_is) at c.requires in
    let (text, are) = asked.across in
    let (up, are_up) = asked.up in
    let across : IsHorizontal c.put_across.new.horizontal = rw (c.put_across.ensures text are) (across-put text _ k.horizontal) in
    let vertical : IsVertical c.put_vertical.new.value = rw (c.put_vertical.ensures up are_up) (vertical-put up _ k.vertical) in
    assumption (across, vertical)

use Rattle.std.proofs.Common.{subst}
use Rattle.crs_value.specs.inner.Prelude.{IsVertical}
use Rattle.crs_same.proofs.AllSameLemmas.{walked-same}
use Rattle.crs_same.proofs.EachPartLemmas.{vertical}
use Rattle.crs_same.proofs.SettledLemmas.{of-systems}
use Rattle.crs_same.proofs.crs.same_vertical.Goals as goal

pub returns : goal.returns
returns c =
    walked-same _ _ _ _ (vertical (of-systems _ c.one_axis_each.ensures.one) _ _ _ (subst IsVertical c.a.view_is c.a.invariant).system (subst IsVertical c.b.view_is c.b.invariant).system tt)
    c.start.ensures.path c.start.ensures.level c.first.ensures c.vertical.ensures c.is_same.ensures

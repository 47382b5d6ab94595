use Rattle.std.proofs.Common.{subst}
use Rattle.crs_value.specs.inner.Prelude.{IsGeodetic}
use Rattle.crs_same.proofs.AllSameLemmas.{walked-same}
use Rattle.crs_same.proofs.EachPartLemmas.{geodetic}
use Rattle.crs_same.proofs.SettledLemmas.{of-systems}
use Rattle.crs_same.proofs.crs.same_geodetic.Goals as goal

pub returns : goal.returns
returns c =
    walked-same _ _ _ _ (geodetic (of-systems _ c.one_axis_each.ensures.one) _ _ _ (subst IsGeodetic c.a.view_is c.a.invariant).system (subst IsGeodetic c.b.view_is c.b.invariant).system tt)
    c.start.ensures.path c.start.ensures.level c.first.ensures c.geodetic.ensures c.is_same.ensures

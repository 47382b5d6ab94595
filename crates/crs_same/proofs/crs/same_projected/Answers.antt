use Rattle.std.proofs.Common.{subst}
use Rattle.crs_value.specs.inner.Prelude.{IsProjected}
use Rattle.crs_same.proofs.AllSameLemmas.{walked-same}
use Rattle.crs_same.proofs.EachPartLemmas.{projected}
use Rattle.crs_same.proofs.SettledLemmas.{of-systems}
use Rattle.crs_same.proofs.crs.same_projected.Goals as goal

pub returns : goal.returns
returns c =
    walked-same _ _ _ _ (projected (of-systems _ c.one_axis_each.ensures.one) _ _ _ (subst IsProjected c.a.view_is c.a.invariant).system (subst IsProjected c.b.view_is c.b.invariant).system tt)
    c.start.ensures.path c.start.ensures.level c.first.ensures c.projected.ensures c.is_same.ensures

use Rattle.std.proofs.Common.{subst}
use Rattle.crs_value.specs.inner.Prelude.{IsCompound}
use Rattle.crs_same.proofs.AllSameLemmas.{walked-same}
use Rattle.crs_same.proofs.EachPartLemmas.{compound}
use Rattle.crs_same.proofs.SettledLemmas.{are-sound, of-systems}
use Rattle.crs_same.proofs.crs.same_compound.Goals as goal

pub returns : goal.returns
returns c =
    walked-same _ _ _ _ (compound (of-systems _ c.one_axis_each.ensures.one) _ _ _ (are-sound _ (subst IsCompound c.a.view_is c.a.invariant)) (are-sound _ (subst IsCompound c.b.view_is c.b.invariant)) tt)
    c.start.ensures.path c.start.ensures.level c.first.ensures c.compound.ensures c.is_same.ensures

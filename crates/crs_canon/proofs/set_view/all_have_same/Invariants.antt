use Rattle.std.proofs.Common.{◌↔◌, drop}
use Rattle.crs_same.specs.inner.Prelude.{AllHaveSame}
use Rattle.crs_canon.proofs.set_view.all_have_same.Given as goal

abbrev pub invariant-loop-member : goal.invariant-loop-member
invariant-loop-member g l = AllHaveSame (g.T.Canonical.Same l.level) l.members l.others ↔ AllHaveSame (g.T.Canonical.Same l.level) (drop l.member-index l.members) l.others

use Rattle.std.proofs.Common.{◌↔◌, drop}
use Rattle.crs_same.specs.inner.Prelude.{HasSame}
use Rattle.crs_canon.proofs.set_view.has_same.Given as goal

abbrev pub invariant-loop-other : goal.invariant-loop-other
invariant-loop-other g l = HasSame (g.T.Canonical.Same l.level) l.member l.others ↔ HasSame (g.T.Canonical.Same l.level) l.member (drop l.other-index l.others)

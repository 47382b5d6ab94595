use Rattle.std.proofs.Common.{◌↔◌, drop}
use Rattle.crs_same.specs.SameIdents.{HasSame}
use Rattle.crs_same.proofs.sets.has_same.Given as goal

abbrev pub invariant-loop-other : goal.invariant-loop-other
invariant-loop-other g l = HasSame (g.T.SetMember.Same l.level) l.member l.others ↔ HasSame (g.T.SetMember.Same l.level) l.member (drop l.other-index l.others)

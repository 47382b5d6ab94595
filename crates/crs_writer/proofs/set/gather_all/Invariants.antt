use Rattle.crs_writer.specs.inner.Members.{spellings}
use Rattle.crs_writer.proofs.GatherLemmas.{Gathering}
use Rattle.crs_writer.proofs.set.gather_all.Given as goal

abbrev pub invariant-loop-member : goal.invariant-loop-member
invariant-loop-member g l =
    g.M.MembersPart.Hold l.left
    × Gathering g.M.MembersPart.Say (g.T.Spell.spelling l.level) l.fn.members (spellings l.fn.sorted.keys) (spellings l.sorted.keys) l.left

abbrev pub decreases-loop-member : goal.decreases-loop-member
decreases-loop-member g l = g.M.MembersPart.left l.left

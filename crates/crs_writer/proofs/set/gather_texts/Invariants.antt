use Rattle.crs_writer.specs.inner.Spans.{AreInOrder, texts_at}
use Rattle.crs_writer.proofs.GatherLemmas.{Gathering}
use Rattle.crs_writer.proofs.set.gather_texts.Given as goal

abbrev pub invariant-loop-member : goal.invariant-loop-member
invariant-loop-member g l =
    g.M.MembersPart.Hold l.left
    × AreInOrder l.texts.bytes.items l.texts.spans.items
    × Gathering g.M.MembersPart.Say (g.T.Spell.spelling l.level) l.fn.members (texts_at l.fn.texts.bytes.items l.fn.texts.spans.items)
    (texts_at l.texts.bytes.items l.texts.spans.items) l.left

abbrev pub decreases-loop-member : goal.decreases-loop-member
decreases-loop-member g l = g.M.MembersPart.left l.left

use Rattle.std.proofs.Common.{sym, ◌∙◌}
use Rattle.crs_text.proofs.tokens.ScanLemmas.{refused_end, spelled_whole}
use Rattle.crs_text.proofs.scanning.scan_last.Goals as goal

pub returns-then-is_whole : goal.returns-then-is_whole
returns-then-is_whole c =
    spelled_whole c.args.text.now c.loop-at.at c.loop-at.table c.loop-at.invariant c.loop-at-test.false (sym c.is_whole.ensures ∙ c.if-is_whole.true)

pub returns-else-is_whole : goal.returns-else-is_whole
returns-else-is_whole c =
    refused_end c.args.text.now c.loop-at.at c.loop-at.table c.at.result c.loop-at.invariant c.loop-at-test.false (sym c.is_whole.ensures ∙ c.if-is_whole.false) c.at.ensures.number c.at.ensures.place

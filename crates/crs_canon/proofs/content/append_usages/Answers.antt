use Rattle.std.proofs.Common.{rules}
use Rattle.crs_normal.specs.inner.Prelude.{IsSpelledUsage}
use Rattle.crs_canon.proofs.LackingLemmas.{lacking-appended}
use Rattle.crs_canon.proofs.content.append_usages.Goals as goal

pub returns : goal.returns
returns c =
    lacking-appended (IsSpelledUsage c.args.level) c.texts_are_in_order.ensures.ascend c.texts_are_in_order.ensures.members
    _ _ _ _ _ _ _ _ c.append_lacking.result (search rules) (search rules) c.in_ok-gather_usages.ensures c.in_ok-gather_usages-2.ensures
    c.append_lacking.ensures

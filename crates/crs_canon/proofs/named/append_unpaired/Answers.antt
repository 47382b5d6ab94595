use Rattle.std.proofs.Common.{rules}
use Rattle.crs_normal.specs.inner.Prelude.{IsSpelledParameter}
use Rattle.crs_canon.specs.Named.{unpaired}
use Rattle.crs_canon.proofs.LackingLemmas.{lacking-appended}
use Rattle.crs_canon.proofs.NamedLemmas.{put-unpaired}
use Rattle.crs_canon.proofs.named.append_unpaired.Goals as goal

pub returns : goal.returns
returns c =
    let level = c.args.level in
    let these = c.args.these.now in
    let others = c.args.others.now in
    lacking-appended (IsSpelledParameter level) c.texts_are_in_order.ensures.ascend c.texts_are_in_order.ensures.members
    (unpaired these others) (unpaired others these) _ _ _ _ _ _ c.append_lacking.result (search rules) (search rules)
    (put-unpaired level these others _ _ (c.are_spelled.ensures.spelled level) c.in_ok-gather_unpaired.ensures)
    (put-unpaired level others these _ _ (c.are_spelled-2.ensures.spelled level) c.in_ok-gather_unpaired-2.ensures)
    c.append_lacking.ensures

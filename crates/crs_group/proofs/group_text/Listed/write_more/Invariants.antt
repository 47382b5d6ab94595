use Rattle.std.proofs.Common.{◌≡◌, ◌++◌, drop}
use Rattle.crs_streams.specs.inner.Prelude.{json_more}
use Rattle.crs_group.specs.GroupObjects.{json_line}
use Rattle.crs_group.proofs.group_text.Listed.write_more.Given as goal

abbrev pub invariant-loop-number : goal.invariant-loop-number
invariant-loop-number l =
    let written = json_line l.named l.self.ledger.now.names in
    l.out.items ++ json_more written (drop l.number-index l.numbers)
    ≡ l.initial.out.items ++ json_more written l.numbers

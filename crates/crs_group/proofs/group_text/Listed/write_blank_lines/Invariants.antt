use Rattle.std.proofs.Common.{◌≡◌, ◌++◌, drop}
use Rattle.std.specs.List.{flat_map}
use Rattle.crs_group.specs.GroupOutput.{blank_written}
use Rattle.crs_group.proofs.group_text.Listed.write_blank_lines.Given as goal

abbrev pub invariant-loop-line : goal.invariant-loop-line
invariant-loop-line l =
    let written = blank_written l.self.listing l.self.ledger.now.names in
    l.out.items ++ flat_map written (drop l.line-index l.self.ledger.now.blanks)
    ≡ l.initial.out.items ++ flat_map written l.self.ledger.now.blanks

use Rattle.std.proofs.Common.{◌≡◌, ◌+◌, ◌++◌, drop}
use Rattle.crs_group.specs.GroupOutput.{group_lines}
use Rattle.crs_group.proofs.group_text.Listed.write_groups.Given as goal

abbrev pub invariant-loop-at : goal.invariant-loop-at
invariant-loop-at l =
    l.out.items ++ group_lines l.self.listing l.self.ledger.now.names (l.at + 1) (drop l.at l.self.ledger.now.catalogue.groups)
    ≡ l.initial.out.items ++ group_lines l.self.listing l.self.ledger.now.names 1 l.self.ledger.now.catalogue.groups

use Rattle.std.proofs.Common.{◌≡◌, ◌++◌, drop}
use Rattle.crs_group.specs.GroupOutput.{labels_text}
use Rattle.crs_group.proofs.group_text.Listed.write_labels.Given as goal

abbrev pub invariant-loop-number : goal.invariant-loop-number
invariant-loop-number l =
    l.out.items ++ labels_text l.self.listing l.self.ledger.now.names (drop l.number-index l.numbers)
    ≡ l.initial.out.items ++ labels_text l.self.listing l.self.ledger.now.names l.numbers

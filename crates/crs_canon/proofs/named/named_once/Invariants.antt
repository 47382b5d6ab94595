use Rattle.std.proofs.Common.{◌≡◌, drop}
use Rattle.std.specs.Option.{option_copied}
use Rattle.crs_canon.specs.Named.{of_name, only}
use Rattle.crs_canon.proofs.NamedLemmas.{found_before}
use Rattle.crs_canon.proofs.named.named_once.Given as goal

abbrev pub invariant-loop-member : goal.invariant-loop-member
invariant-loop-member l =
    only (found_before (option_copied l.found) (of_name l.name (drop l.member-index l.members))) ≡ only (of_name l.name l.members)

use Rattle.std.proofs.Common.{◌≡◌, ◌++◌, drop}
use Rattle.std.specs.List.{flat_map}
use Rattle.crs_group.specs.GroupOutput.{without_blank}
use Rattle.crs_group.proofs.group_text.append_without_blanks.Given as goal

abbrev pub invariant-loop-byte : goal.invariant-loop-byte
invariant-loop-byte l =
    l.out.items ++ flat_map without_blank (drop l.byte-index l.bytes)
    ≡ l.initial.out.items ++ flat_map without_blank l.bytes

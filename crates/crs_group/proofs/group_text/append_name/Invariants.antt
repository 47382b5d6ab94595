use Rattle.std.proofs.Common.{◌≡◌, ◌++◌, drop}
use Rattle.std.specs.List.{flat_map}
use Rattle.crs_group.specs.GroupOutput.{shown_byte}
use Rattle.crs_group.proofs.group_text.append_name.Given as goal

abbrev pub invariant-loop-byte : goal.invariant-loop-byte
invariant-loop-byte l =
    l.out.items ++ flat_map shown_byte (drop l.byte-index l.name) ≡ l.initial.out.items ++ flat_map shown_byte l.name

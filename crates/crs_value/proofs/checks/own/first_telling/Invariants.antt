use Rattle.std.proofs.Common.{◌≡◌, drop}
use Rattle.std.specs.List.{find}
use Rattle.crs_value.specs.inner.FirstByte.{is_telling}
use Rattle.crs_value.proofs.checks.own.first_telling.Given as goal

abbrev pub invariant-loop-byte : goal.invariant-loop-byte
invariant-loop-byte l = find is_telling (drop l.byte-index l.bytes) ≡ find is_telling l.bytes

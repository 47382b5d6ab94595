use Rattle.std.proofs.Common.{◌≡◌, ◌++◌, codes, drop}
use Rattle.std.specs.List.{flat_map}
use Rattle.crs_streams.specs.Escaped.{hex_byte}
use Rattle.crs_streams.proofs.json.append_bytes.Given as goal

abbrev pub invariant-loop-byte : goal.invariant-loop-byte
invariant-loop-byte l =
    l.out.items ++ flat_map hex_byte (drop l.byte-index l.bytes) ≡ (l.fn.out.items ++ codes "{\"bytes\":\"") ++ flat_map hex_byte l.bytes

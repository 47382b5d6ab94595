use Rattle.std.proofs.Common.{◌≡◌, map, take}
use Rattle.crs_explain.specs.Explained.{in_line}
use Rattle.crs_explain.proofs.refusal.words_of.Given as goal

abbrev pub invariant-loop-byte : goal.invariant-loop-byte
invariant-loop-byte l = l.line.items ≡ map in_line (take l.byte-index l.byte-items)

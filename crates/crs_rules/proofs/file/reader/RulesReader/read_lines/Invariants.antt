use Rattle.std.proofs.Common.{◌+◌, ◌≤◌, length}
use Rattle.crs_rules.specs.inner.Grown.{HasGrown}
use Rattle.crs_rules.proofs.FileLemmas.{LeadsFile}
use Rattle.crs_rules.proofs.file.reader.RulesReader.read_lines.Given as goal

abbrev pub invariant-loop-left : goal.invariant-loop-left
invariant-loop-left l = record {
  leads : LeadsFile l.fn.self l.bytes l.left l.self;
  few : l.self.line + length l.left ≤ length l.bytes;
  grown : HasGrown l.fn.self l.self;
}

abbrev pub decreases-loop-left : goal.decreases-loop-left
decreases-loop-left l = length l.left

use Rattle.std.proofs.Common.{[]}
use Rattle.crs_desk.specs.DigestOutput.{IsDigestOutput}
use Rattle.crs_desk.specs.FilesRun.{blank_told}
use Rattle.crs_desk.specs.LinesRun.{IsLineOutput}
use Rattle.crs_desk.specs.Output.{IsCanonOutput, IsCheckOutput}
use Rattle.crs_desk.specs.RulesOutput.{IsFormOutput}
use Rattle.crs_desk.proofs.LineOutputLemmas.{output-append}
use Rattle.crs_desk.proofs.laws.lines_joined.Goals as goal

pub returns : goal.returns
returns c = record {
  canon = λ level. output-append c.lines_are_cut.ensures (IsLineOutput [] (IsCanonOutput level));
  check = λ how. output-append c.lines_are_cut.ensures (IsLineOutput (blank_told how) (IsCheckOutput how));
  digest = λ by. output-append c.lines_are_cut.ensures (IsLineOutput [] (IsDigestOutput by));
  form = λ rules level. output-append c.lines_are_cut.ensures (IsLineOutput [] (IsFormOutput rules level));
}

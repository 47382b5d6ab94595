use Rattle.crs_rules.proofs.SteadyFileLemmas.{steady, steady-alone}
use Rattle.crs_rules.proofs.laws.files.read_rules_are_steady.Goals as goal

pub returns : goal.returns
returns c = record {
  files = steady c.denotes_one.ensures c.plain_is_the_one.ensures.denotes;
  alone = steady-alone c.denotes_one.ensures c.plain_is_the_one.ensures.denotes;
}

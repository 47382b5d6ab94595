use Rattle.std.proofs.Common.{[]}
use Rattle.crs_rules.proofs.NoRulesLemmas.{nothing-changes}
use Rattle.crs_rules.proofs.laws.no_rules_rewrite_nothing.Goals as goal

pub returns : goal.returns
returns c = nothing-changes (λ axis. [])

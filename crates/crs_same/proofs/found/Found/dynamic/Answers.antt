use Rattle.std.proofs.Common.{rules}
use Rattle.crs_same.specs.Parts.{parts_of_dynamic}
use Rattle.crs_same.proofs.WalkedLemmas.{via}
use Rattle.crs_same.proofs.found.Found.dynamic.Goals as goal

pub returns : goal.returns
unfolding parts_of_dynamic
returns c =
    via c.optional_number-found.result (search rules) (search rules)

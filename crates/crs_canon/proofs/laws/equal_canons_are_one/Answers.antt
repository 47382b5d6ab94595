use Rattle.crs_writer.specs.inner.Prelude.{canons-decide, canons-hash}
use Rattle.crs_canon.proofs.laws.equal_canons_are_one.Goals as goal

pub returns-clause-equal : goal.returns-clause-equal
returns-clause-equal c = canons-decide

pub returns-clause-hash : goal.returns-clause-hash
returns-clause-hash c = canons-hash

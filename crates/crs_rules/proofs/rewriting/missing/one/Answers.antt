use Rattle.crs_rules.proofs.FactorLemmas.{one-is, one-is-read}
use Rattle.crs_rules.proofs.rewriting.missing.one.Goals as goal

pub unreachable-requires : goal.unreachable-requires
unreachable-requires c = one-is-read c.digits_alone.ensures _ c.in-Err.ensures

pub returns : goal.returns
returns c = one-is c.denotes_one.ensures c.in-Ok.one c.in-Ok.ensures.0 c.in-Ok.ensures.1

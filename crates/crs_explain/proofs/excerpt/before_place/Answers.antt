use Rattle.crs_explain.proofs.ExcerptLemmas.{end_of}
use Rattle.crs_explain.proofs.excerpt.before_place.Goals as goal

pub returns-in-Some : goal.returns-in-Some
returns-in-Some c = end_of c.args.bytes.now _ _ c.rest_of.ensures

pub returns-in-None : goal.returns-in-None
returns-in-None c = end_of c.args.bytes.now _ _ c.rest_of-last.ensures

use Rattle.crs_explain.proofs.ExcerptLemmas.{front_of}
use Rattle.crs_explain.proofs.excerpt.behind_place.Goals as goal

pub returns : goal.returns
returns c = front_of c.args.bytes.now _ _ _ _ c.between-2.ensures c.trim_ascii_end.ensures.value.1

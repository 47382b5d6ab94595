use Rattle.crs_value.proofs.checked.CrsLemmas.{crs-early, crs-whole}
use Rattle.crs_value.proofs.checks.crs.whole_crs.Goals as goal

pub returns-in-Some : goal.returns-in-Some
returns-in-Some c = crs-early _ _ _ _ _ _ c.lesser-found.ensures c.requires.inside c.of_head.ensures c.in-Some.ensures.0 c.in-Some.ensures.1

pub returns-in-None : goal.returns-in-None
returns-in-None c = crs-whole _ _ _ _ _ _ _ c.lesser-found.ensures c.lesser.ensures c.requires.inside c.of_head.ensures c.of_axes.ensures

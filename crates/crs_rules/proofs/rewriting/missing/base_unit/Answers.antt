use Rattle.crs_rules.proofs.PartLemmas.{bare-angle}
use Rattle.crs_rules.proofs.rewriting.missing.base_unit.Goals as goal

pub returns-clause-sound : goal.returns-clause-sound
returns-clause-sound c = simp c.bare_part.ensures (bare-angle _ c.value.invariant.unit)

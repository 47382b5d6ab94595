use Rattle.std.proofs.Common.{Some}
use Rattle.crs_text.specs.inner.Prelude.{count}
use Rattle.crs_value.specs.inner.Prelude.{ahead}
use Rattle.crs_rules.specs.Statements.{FaultOfNode, Joins, listed}
use Rattle.crs_rules.proofs.WalkLemmas.{Walks}
use Rattle.crs_rules.proofs.file.reader.RulesReader.add_others.Given as goal

abbrev pub invariant-loop-at : goal.invariant-loop-at
invariant-loop-at l = Walks (Joins l.first) (FaultOfNode (Some l.first)) l.fn.self (listed (ahead l.items l.fn.from)) l.self l.items l.at

abbrev pub decreases-loop-at : goal.decreases-loop-at
decreases-loop-at l = count (ahead l.items l.at)

use Rattle.crs_text.specs.inner.Prelude.{count}
use Rattle.crs_value.specs.inner.Prelude.{ahead}
use Rattle.crs_rules.specs.Statements.{FaultOfSort, Sorts, listed}
use Rattle.crs_rules.proofs.WalkLemmas.{Walks}
use Rattle.crs_rules.proofs.file.reader.RulesReader.sort_others.Given as goal

abbrev pub invariant-loop-at : goal.invariant-loop-at
invariant-loop-at l = Walks (Sorts l.kind) (FaultOfSort l.kind) l.fn.self (listed (ahead l.items l.fn.from)) l.self l.items l.at

abbrev pub decreases-loop-at : goal.decreases-loop-at
decreases-loop-at l = count (ahead l.items l.at)

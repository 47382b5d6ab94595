use Rattle.crs_text.specs.inner.Prelude.{count}
use Rattle.crs_value.specs.inner.Prelude.{ahead}
use Rattle.crs_rules.specs.Statements.{Drops, FaultOfWord, listed}
use Rattle.crs_rules.proofs.WalkLemmas.{Walks}
use Rattle.crs_rules.proofs.file.reader.RulesReader.drop_words.Given as goal

abbrev pub invariant-loop-at : goal.invariant-loop-at
invariant-loop-at l = Walks Drops FaultOfWord l.fn.self (listed (ahead l.items l.fn.from)) l.self l.items l.at

abbrev pub decreases-loop-at : goal.decreases-loop-at
decreases-loop-at l = count (ahead l.items l.at)

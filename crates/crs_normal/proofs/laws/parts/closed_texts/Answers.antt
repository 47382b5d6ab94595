use Rattle.crs_normal.proofs.texts.ClosedLemmas.{closed-alone, node-closed}
use Rattle.crs_normal.proofs.laws.parts.closed_texts.Goals as goal

pub returns-clause-node : goal.returns-clause-node
returns-clause-node c = node-closed

pub returns-clause-front : goal.returns-clause-front
returns-clause-front c = closed-alone

use Rattle.std.proofs.Common.{sym}
use Rattle.crs_rules.proofs.StemLemmas.{stem-when}
use Rattle.crs_rules.proofs.rewriting.frames.without_ensemble.Goals as goal

pub returns-then-ends_with-clause-text : goal.returns-then-ends_with-clause-text
returns-then-ends_with-clause-text c = stem-when c.args.name.now (sym c.if-ends_with.ensures.value) c.requires

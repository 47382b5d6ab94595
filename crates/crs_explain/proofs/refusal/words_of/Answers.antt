use Rattle.std.proofs.Common.{arith}
use Rattle.std.proofs.lemmas.Grind.{common_steps}
use Rattle.crs_explain.proofs.refusal.words_of.Goals as goal

pub returns : goal.returns
returns c = grind (arith, common_steps)

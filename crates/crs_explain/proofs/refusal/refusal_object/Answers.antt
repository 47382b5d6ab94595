use Rattle.std.proofs.Common.{rules}
use Rattle.crs_explain.proofs.refusal.refusal_object.Goals as goal

pub returns : goal.returns
returns c = (_, c.in_ok-explanation.ensures, search rules)

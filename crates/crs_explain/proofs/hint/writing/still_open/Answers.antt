use Rattle.std.proofs.Common.{inr}
use Rattle.std.proofs.lemmas.Result.{IfOk-weaker}
use Rattle.crs_explain.proofs.hint.writing.still_open.Goals as goal

pub returns-in-len1-up : goal.returns-in-len1-up
returns-in-len1-up c = IfOk-weaker c.open_text.result _ _ (λ words is. inr (c.node_at.result.keyword.now, c.node_at.result.delimiter, c.node_at.result.begin, is)) c.open_text.ensures

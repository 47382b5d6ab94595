use Rattle.std.proofs.Common.{subst}
use Rattle.crs_text.specs.Items.{AreNode}
use Rattle.crs_text.proofs.rows.OneItemLemmas.{one_node}
use Rattle.crs_text.proofs.texts.OneAnswerLemmas.{tokens_one, spelled_not_refused, refusal_one}
use Rattle.crs_text.proofs.texts.AnswerLemmas.{either}
use Rattle.crs_text.proofs.tokens.ScanLemmas.{refusal_within}
use Rattle.crs_text.proofs.laws.one_answer.Goals as goal

pub returns : goal.returns
returns c = record {
  tokens = tokens_one;
  node = λ bytes i j p q. one_node i j q.0 (subst (AreNode i) (tokens_one bytes p.0 q.0 p.1 q.1) p.2) q.2;
  refusal = λ bytes n m place other p q. refusal_one bytes n m place other p q;
  apart = λ bytes item n place p q. spelled_not_refused bytes item n place p q;
  within = refusal_within;
  either = either c.decided.ensures;
}

use Rattle.crs_canon.proofs.MainLemmas.{answer-own, answers-equal, canons-equal}
use Rattle.crs_canon.proofs.laws.answers_are_equal_where_same.Goals as goal

pub returns : goal.returns
returns c = record {
  equal = λ level. answers-equal level (c.main_theorem.ensures level);
  own = λ level. answer-own level (c.main_theorem.ensures level);
  canons = canons-equal c.main_theorem.ensures;
}

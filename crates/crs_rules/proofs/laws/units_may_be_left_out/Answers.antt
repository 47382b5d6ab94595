use Rattle.crs_rules.proofs.LeftOutLemmas.{left-out-form}
use Rattle.crs_rules.proofs.laws.units_may_be_left_out.Goals as goal

pub returns : goal.returns
returns c = λ r level first second bytes a x y s t f.
    left-out-form level (c.main_theorem.ensures level) c.one_answer.ensures.value r first second bytes a x y s t f

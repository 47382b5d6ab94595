use Rattle.std.proofs.Common.{refl}
use Rattle.crs_rules.proofs.FormOrderLemmas.{kept-by}
use Rattle.crs_rules.proofs.laws.order_of_the_form_is_kept.Goals as goal

pub returns : goal.returns
returns c = λ text r x. kept-by text r x r.uncounted.axis_order refl

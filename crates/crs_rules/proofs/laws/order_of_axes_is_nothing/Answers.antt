use Rattle.crs_rules.proofs.OwnFormLemmas.{reordered-form}
use Rattle.crs_rules.proofs.laws.order_of_axes_is_nothing.Goals as goal

pub returns : goal.returns
returns c = λ r level first second bytes a b h o k l s t d f.
    reordered-form level (c.form_laws.ensures level) c.set_laws.ensures r h o c.axes_are_canonical.ensures
    (c.main_theorem.ensures level) first second bytes a b k l s t d f

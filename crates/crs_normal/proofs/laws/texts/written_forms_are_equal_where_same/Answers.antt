use Rattle.std.proofs.Common.{ap, subst}
use Rattle.crs_text.specs.inner.Prelude.{item_text}
use Rattle.crs_value.specs.inner.Prelude.{Spells}
use Rattle.crs_normal.specs.inner.SpelledCrs.{item_crs, norm_crs}
use Rattle.crs_normal.proofs.laws.texts.written_forms_are_equal_where_same.Goals as goal

pub returns : goal.returns
returns c level a b sa sb =
    let decides = c.same_crss_have_one_form.ensures level a b sa sb in (
      λ e. decides.0 (c.one_answer.ensures.value (item_text (item_crs (norm_crs level b))) (norm_crs level a) (norm_crs level b)
          (subst (λ t. Spells t (norm_crs level a)) e (c.written_form_is_accepted.ensures level a sa))
          (c.written_form_is_accepted.ensures level b sb)),
      λ same. ap (λ crs. item_text (item_crs crs)) (decides.1 same),
    )

use Rattle.std.proofs.Common.{◌∙◌, ap, subst, sym}
use Rattle.crs_text.specs.inner.Prelude.{item_text}
use Rattle.crs_value.specs.inner.Prelude.{Spells}
use Rattle.crs_same.specs.inner.Prelude.{SameCrs}
use Rattle.crs_normal.specs.inner.SpelledCrs.{item_crs}
use Rattle.crs_normal.proofs.laws.texts.normal_texts_are_equal_where_same.Goals as goal

pub returns : goal.returns
returns c level first second a b na nb sa sb =
    let ia = c.spelled_crs_is_sound.ensures first a sa in
    let ib = c.spelled_crs_is_sound.ensures second b sb in (
      λ e. subst (SameCrs level a)
          (c.one_answer.ensures.value second a b (subst (λ text. Spells text a) e sa) sb)
          ((c.same_crs_is_equivalence.ensures level).reflexive a ia),
      λ same. c.normal_text_is_its_form.ensures level first a na sa
          ∙ ap (λ crs. item_text (item_crs crs)) ((c.same_crss_have_one_form.ensures level a b ia ib).1 same)
          ∙ sym (c.normal_text_is_its_form.ensures level second b nb sb),
    )

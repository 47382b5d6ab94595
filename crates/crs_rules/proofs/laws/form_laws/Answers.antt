use Rattle.crs_rules.proofs.laws.form_laws.Goals as goal

pub returns : goal.returns
returns c = λ level. record {
  sound = c.spelled_crs_is_sound.ensures;
  value = c.one_answer.ensures.value;
  same = c.same_crs_is_equivalence.ensures level;
  equal = c.canonical_texts_are_equal_where_same.ensures.equal level;
  normal = c.written_form_is_normal.ensures level;
  accepted = c.written_form_is_accepted.ensures level;
  one_form = c.one_form_is_the_same.ensures level;
}

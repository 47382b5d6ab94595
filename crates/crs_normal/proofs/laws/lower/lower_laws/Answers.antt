use Rattle.crs_normal.proofs.laws.lower.lower_laws.Goals as goal

pub returns : goal.returns
returns c = record {
  one_form = c.one_form.ensures;
  run = c.spelled_as_a_run.ensures;
  digits_alone = c.digits_alone.ensures;
  denotes_one = c.denotes_one.ensures;
  is_plain = c.plain_is_the_one.ensures.is_plain;
  denotes = c.plain_is_the_one.ensures.denotes;
  plain_one = c.plain_is_the_one.ensures.only;
  zero_plain = c.worked_examples.ensures.plain.3;
  normal_is_one = c.normal_is_one.ensures;
  symmetric = c.same_number_is_equivalence.ensures.symmetric;
  transitive = c.same_number_is_equivalence.ensures.transitive;
  tested = c.whole_numbers_are_tested.ensures;
  spells = c.written_items.ensures.spells;
  formed = c.written_items.ensures.formed;
  one_node = c.one_answer.ensures.node;
  shape = c.no_fault_is_shape.ensures;
  some_axis = c.one_axis_each.ensures.some;
  one_axis = c.one_axis_each.ensures.one;
  as_many = c.as_many_axes.ensures;
}

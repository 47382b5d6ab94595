use Rattle.crs_normal.proofs.texts.WholeLemmas.{number-tested}
use Rattle.crs_normal.proofs.laws.numbers.whole_numbers_are_tested.Goals as goal

pub returns : goal.returns
returns c = number-tested record {
  one_form = c.one_form.ensures;
  denotes = c.plain_is_the_one.ensures.denotes;
  only = c.plain_is_the_one.ensures.only;
  symmetric = c.same_number_is_equivalence.ensures.symmetric;
  transitive = c.same_number_is_equivalence.ensures.transitive;
}

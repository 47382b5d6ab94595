use Rattle.crs_canon.proofs.LevelLemmas.{own, through}
use Rattle.crs_canon.proofs.laws.levels_of_canonical_texts.Goals as goal

pub returns : goal.returns
returns c = record {
  through = through c.same_crs_is_equivalence.ensures c.spelled_crs_is_sound.ensures c.one_answer.ensures.value c.same_crs_is_same_by_definition.ensures
      c.normal_text_is_normal_at_full.ensures;
  own = own c.same_crs_is_equivalence.ensures c.spelled_crs_is_sound.ensures c.one_answer.ensures.value c.same_crs_is_same_by_definition.ensures
      c.normal_text_is_normal_at_full.ensures;
}

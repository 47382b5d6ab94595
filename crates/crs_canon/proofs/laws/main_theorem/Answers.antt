use Rattle.crs_canon.proofs.MainLemmas.{main}
use Rattle.crs_canon.proofs.laws.main_theorem.Goals as goal

pub returns : goal.returns
returns c level = main level (c.canonical_texts_are_equal_where_same.ensures.there level)
    (c.canonical_texts_are_equal_where_same.ensures.equal level) (c.same_crs_is_equivalence.ensures level)
    c.spelled_crs_is_sound.ensures c.one_answer.ensures.value c.one_answer.ensures.refusal c.one_answer.ensures.either

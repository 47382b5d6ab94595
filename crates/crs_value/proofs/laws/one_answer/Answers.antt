use Rattle.crs_value.proofs.some.AnswerLemmas.{refused-within, text-answer}
use Rattle.crs_value.proofs.one.TextLemmas.{text-one, text-refused-one, text-apart}
use Rattle.crs_value.proofs.laws.one_answer.Goals as goal

pub returns : goal.returns
returns c = record {
  value = text-one c.denotes_one.ensures c.one_answer.ensures.node;
  refusal = text-refused-one c.fault_at_root_is_one.ensures.one c.one_answer.ensures.node c.one_answer.ensures.refusal c.one_answer.ensures.apart;
  apart = text-apart c.one_answer.ensures.node c.one_answer.ensures.apart;
  within = refused-within c.denotes_some.ensures c.denotes_one.ensures c.slots_count.ensures.least c.no_fault_is_shape.ensures c.written_items.ensures.formed
      c.one_answer.ensures.within c.fault_is_within.ensures.root c.fault_is_within.ensures.text;
  either = text-answer c.denotes_some.ensures c.denotes_one.ensures c.slots_count.ensures.least c.no_fault_is_shape.ensures c.written_items.ensures.formed
      c.one_answer.ensures.either c.fault_at_root_is_one.ensures.either;
}

use Rattle.crs_text.proofs.texts.WrittenLemmas as lemmas
use Rattle.crs_text.proofs.laws.written_items.Goals as goal

pub returns : goal.returns
returns c = record {
  spells = lemmas.written_spells;
  formed = lemmas.spelled_formed;
  text = lemmas.item_text-at_place;
}

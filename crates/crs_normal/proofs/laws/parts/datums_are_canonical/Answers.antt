use Rattle.std.proofs.Common.{arith}
use Rattle.crs_shape.specs.declared.class.Class.TheVariants as class
use Rattle.crs_value.specs.inner.Prelude.{ReadsDatum, ReadsEnsemble}
use Rattle.crs_normal.specs.inner.PartTexts.{item_own_datum}
use Rattle.crs_normal.specs.inner.SpelledFrames.{item_ensemble}
use Rattle.crs_normal.proofs.parts.PartFrameLemmas.{datum-back, datum-in-one, datum-made, datum-own, datum-sound, ensemble-back, ensemble-in-one, ensemble-made, ensemble-own, ensemble-sound}
use Rattle.crs_normal.proofs.parts.PartLemmas.{canonical-by, made-stands, told-by}
use Rattle.crs_normal.proofs.same.FrameLemmas.{datum-agrees, ensemble-agrees}
use Rattle.crs_normal.proofs.same.PartLemmas.{decides-parts}
use Rattle.crs_normal.proofs.laws.parts.datums_are_canonical.Goals as goal

pub returns : goal.returns
returns c = record {
  datum = λ level. let laws = c.lower_laws.ensures in
      canonical-by laws item_own_datum (record {
        decides = decides-parts (λ a b in-a in-b. (c.parts_agree_where_same.ensures level).datum a b) (datum-agrees c.lower_laws.ensures.normal_is_one c.sets_decide.ensures level);
        made = λ x s. made-stands (omega arith) (datum-made laws level x s 0);
        reads = λ x s. datum-back laws level x s 0;
        told = told-by laws _ _ class.GeodeticFrame ReadsDatum _ _ item_own_datum c.parts_read_once.ensures.datum
            (λ x s. made-stands (omega arith) (datum-made laws level x s 0)) (λ x s. datum-in-one laws level x s 0);
        sound = λ x s. datum-sound c.parts_are_sound.ensures.datum c.parts_are_sound.ensures.vertical_datum x;
        own = λ x s. datum-own laws.plain_one c.parts_are_sound.ensures.datum c.parts_are_sound.ensures.vertical_datum level x;
      });
  ensemble = λ level. let laws = c.lower_laws.ensures in
      canonical-by laws item_ensemble (record {
        decides = decides-parts (λ a b in-a in-b. (c.parts_agree_where_same.ensures level).ensemble a b) (ensemble-agrees c.lower_laws.ensures.normal_is_one c.sets_decide.ensures level);
        made = λ x s. made-stands (omega arith) (ensemble-made laws level x s 0);
        reads = λ x s. ensemble-back laws level x s 0;
        told = told-by laws _ _ class.GeodeticEnsemble ReadsEnsemble _ _ item_ensemble c.parts_read_once.ensures.ensemble
            (λ x s. made-stands (omega arith) (ensemble-made laws level x s 0)) (λ x s. ensemble-in-one laws level x s 0);
        sound = λ x s. ensemble-sound c.parts_are_sound.ensures.ensemble c.parts_are_sound.ensures.vertical_ensemble x;
        own = λ x s. ensemble-own laws.plain_one level x;
      });
}

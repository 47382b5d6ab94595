use Rattle.crs_normal.proofs.normal.LevelLemmas.{normal-at-full}
use Rattle.crs_normal.proofs.laws.texts.normal_text_is_normal_at_full.Goals as goal

pub returns : goal.returns
returns c = normal-at-full

use Rattle.std.proofs.Common.{codes, refl}
use Rattle.crs_normal.specs.inner.PartTexts.{meridian_text}
use Rattle.crs_writer.proofs.FlatLemmas.{copied, spelled, unless-zero}
use Rattle.crs_writer.proofs.spelling.frame_parts.MeridianSpell.spell.Goals as goal

pub returns : goal.returns
returns c = spelled c.write_measured.result (meridian_text c.args.level) _ _ _ _ c.self.view_is c.write_measured.ensures (λ w.
    unless-zero c.args.level (codes "PRIMEM[\"") _ _ _ _ _ _
    (w _ _ _ _ refl refl (c.unit_said.ensures _ _ refl (copied _ _ c.as_ref.ensures.value)) refl))

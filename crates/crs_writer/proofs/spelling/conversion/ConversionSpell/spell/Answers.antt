use Rattle.std.proofs.Common.{refl, sym}
use Rattle.crs_normal.specs.inner.Prelude.{conversion_text}
use Rattle.crs_writer.proofs.FlatLemmas.{spelled}
use Rattle.crs_writer.proofs.spelling.conversion.ConversionSpell.spell.Goals as goal

pub returns : goal.returns
returns c =
    spelled c.write_conversion.result (conversion_text c.args.level) _ _ _ _ c.self.view_is c.write_conversion.ensures (λ w. w _ refl refl (sym c.as_slice-parameters.ensures) refl)

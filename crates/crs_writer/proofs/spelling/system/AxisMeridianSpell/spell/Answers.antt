use Rattle.std.proofs.Common.{Some, refl}
use Rattle.crs_normal.specs.inner.Prelude.{axis_meridian_text}
use Rattle.crs_writer.proofs.FlatLemmas.{spelled}
use Rattle.crs_writer.proofs.spelling.system.AxisMeridianSpell.spell.Goals as goal

pub returns : goal.returns
returns c =
    spelled c.write_axis_meridian.result (axis_meridian_text c.args.level) _ _ _ _ c.self.view_is c.write_axis_meridian.ensures (λ w. w _ (Some _) refl refl)

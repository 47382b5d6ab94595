use Rattle.std.proofs.Common.{refl}
use Rattle.crs_normal.specs.inner.Prelude.{ellipsoid_text}
use Rattle.crs_writer.proofs.FlatLemmas.{copied, spelled}
use Rattle.crs_writer.proofs.spelling.frame_parts.EllipsoidSpell.spell.Goals as goal

pub returns : goal.returns
returns c =
    spelled c.write_ellipsoid.result (ellipsoid_text c.args.level) _ _ _ _ c.self.view_is c.write_ellipsoid.ensures (λ w. w _ refl refl refl (copied _ _ c.as_ref.ensures.value) refl)

use Rattle.std.proofs.Common.{refl}
use Rattle.crs_normal.specs.inner.Prelude.{projected_text}
use Rattle.crs_writer.proofs.FlatLemmas.{spelled}
use Rattle.crs_writer.proofs.spelling.crs.ProjectedSpell.spell.Goals as goal

pub returns : goal.returns
returns c =
    spelled c.write_projected.result (projected_text c.args.level) _ _ _ _ c.self.view_is c.write_projected.ensures (λ w. w _ refl refl refl refl refl)

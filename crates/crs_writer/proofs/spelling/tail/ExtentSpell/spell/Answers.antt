use Rattle.std.proofs.Common.{refl}
use Rattle.crs_normal.specs.inner.Prelude.{extent_text}
use Rattle.crs_writer.proofs.FlatLemmas.{copied, spelled}
use Rattle.crs_writer.proofs.spelling.tail.ExtentSpell.spell.Goals as goal

pub returns : goal.returns
returns c =
    spelled c.write_extent.result (extent_text c.args.level) _ _ _ _ c.self.view_is c.write_extent.ensures (λ w. w _ _ _ refl refl (copied _ _ c.as_ref-unit.ensures.value))

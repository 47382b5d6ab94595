use Rattle.std.proofs.Common.{refl}
use Rattle.crs_normal.specs.inner.Prelude.{base_text}
use Rattle.crs_writer.proofs.FlatLemmas.{copied, spelled}
use Rattle.crs_writer.proofs.spelling.crs.BaseSpell.spell.Goals as goal

pub returns : goal.returns
returns c =
    spelled c.write_base.result (base_text c.args.level) _ _ _ _ c.self.view_is c.write_base.ensures (λ w. w _ _ _ _ _ _ refl (copied _ _ c.as_ref.ensures.value) refl (copied _ _ c.as_ref-2.ensures.value) (copied _ _ c.as_ref-3.ensures.value) refl)

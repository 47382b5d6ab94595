use Rattle.std.proofs.Common.{refl}
use Rattle.crs_normal.specs.inner.Prelude.{dynamic_text}
use Rattle.crs_writer.proofs.FlatLemmas.{copied, spelled}
use Rattle.crs_writer.proofs.spelling.frame_parts.DynamicSpell.spell.Goals as goal

pub returns : goal.returns
returns c =
    spelled c.write_dynamic.result (dynamic_text c.args.level) _ _ _ _ c.self.view_is c.write_dynamic.ensures (λ w. w _ _ refl (copied _ _ c.as_ref-model.ensures.value))

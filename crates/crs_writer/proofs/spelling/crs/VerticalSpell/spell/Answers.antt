use Rattle.std.proofs.Common.{refl, sym}
use Rattle.crs_normal.specs.inner.Prelude.{vertical_text}
use Rattle.crs_writer.proofs.FlatLemmas.{copied, spelled}
use Rattle.crs_writer.proofs.spelling.crs.VerticalSpell.spell.Goals as goal

pub returns : goal.returns
returns c =
    spelled c.write_vertical.result (vertical_text c.args.level) _ _ _ _ c.self.view_is c.write_vertical.ensures (λ w. w _ refl (copied _ _ c.as_ref.ensures.value) refl refl (sym c.as_slice-models.ensures) refl)

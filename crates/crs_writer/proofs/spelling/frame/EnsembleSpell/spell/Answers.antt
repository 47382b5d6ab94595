use Rattle.std.proofs.Common.{refl, sym}
use Rattle.crs_normal.specs.inner.Prelude.{ensemble_text}
use Rattle.crs_writer.proofs.FlatLemmas.{copied, spelled}
use Rattle.crs_writer.proofs.spelling.frame.EnsembleSpell.spell.Goals as goal

pub returns : goal.returns
returns c =
    spelled c.write_ensemble.result (ensemble_text c.args.level) _ _ _ _ c.self.view_is c.write_ensemble.ensures (λ w. w _ refl (sym c.as_slice.ensures) (copied _ _ c.as_ref.ensures.value) refl refl)

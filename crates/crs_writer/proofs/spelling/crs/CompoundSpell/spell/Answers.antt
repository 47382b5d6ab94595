use Rattle.std.proofs.Common.{refl}
use Rattle.crs_normal.specs.inner.Prelude.{compound_text}
use Rattle.crs_writer.proofs.FlatLemmas.{spelled}
use Rattle.crs_writer.proofs.spelling.crs.CompoundSpell.spell.Goals as goal

pub returns : goal.returns
returns c =
    spelled c.write_compound.result (compound_text c.args.level) _ _ _ _ c.self.view_is c.write_compound.ensures (λ w. w _ refl refl refl refl)

use Rattle.crs_shape.specs.declared.class.Class.TheVariants as class
use Rattle.crs_value.specs.inner.Prelude.{ReadsIdent}
use Rattle.crs_writer.proofs.FoundLemmas.{all-said}
use Rattle.crs_writer.proofs.FlatLemmas.{written}
use Rattle.crs_writer.proofs.spelling.idents_and_units.write_chain.Goals as goal

pub returns : goal.returns
returns c = written c.write_set.result _ _ _ c.write_set.ensures (λ set ids r.
    set.writes ids (all-said ReadsIdent class.Identifier _ _ _ _ c.all-identifiers.ensures.class c.all-identifiers.ensures.all r))

use Rattle.std.proofs.lemmas.Result.{on_ok_weaker}
use Rattle.crs_shape.specs.declared.class.Class.TheVariants as class
use Rattle.crs_text.specs.inner.Prelude.{item_text}
use Rattle.crs_value.specs.inner.Prelude.{ReadsIdent}
use Rattle.crs_normal.specs.inner.Prelude.{item_ident}
use Rattle.crs_writer.proofs.NothingWrittenLemmas.{idents-dropped, idents-kept, none-written, retold, untold}
use Rattle.crs_writer.proofs.spelling.idents_and_units.RefNodeIdentsPart.put.Goals as goal

pub returns-then-is_flat : goal.returns-then-is_flat
returns-then-is_flat c =
    retold _ _ _ _ _ (idents-kept c.args.level (c.keeps.ensures.full c.if-keeps.true))
    (none-written (ReadsIdent class.Identifier) (λ i. item_text (item_ident i)) _ c.args.out.now.items
    (c.is_flat.ensures.identifiers c.if-is_flat.true))

pub returns-else-is_flat : goal.returns-else-is_flat
returns-else-is_flat c =
    on_ok_weaker c.write_chain.result (retold _ _ _ _ _ (idents-kept c.args.level (c.keeps.ensures.full c.if-keeps.true))) c.write_chain.ensures

pub returns-else-keeps : goal.returns-else-keeps
returns-else-keeps c = untold _ _ _ (λ ids r. idents-dropped c.args.level (c.keeps.ensures.definition c.if-keeps.false) ids)

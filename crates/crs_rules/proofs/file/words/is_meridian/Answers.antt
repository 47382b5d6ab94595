use Rattle.std.proofs.Common.{◌∙◌, ap, sym}
use Rattle.crs_value.specs.inner.Prelude.{item_at}
use Rattle.crs_rules.specs.Statements.{meridian_named}
use Rattle.crs_rules.proofs.ReaderLemmas.{word-meridian}
use Rattle.crs_rules.proofs.file.words.is_meridian.Goals as goal

pub returns-in-Word : goal.returns-in-Word
returns-in-Word c =
    c.meridian_named.ensures ∙ ap (meridian_named c.args.kind) c.raw.ensures
    ∙ word-meridian c.args.kind (item_at c.args.items.now c.args.id) (sym c.kind.ensures ∙ c.in-Word.is)

use Rattle.std.proofs.Common.{◌∙◌, ap, sym}
use Rattle.crs_value.specs.inner.Prelude.{item_at}
use Rattle.crs_rules.specs.Statements.{kind_named}
use Rattle.crs_rules.proofs.ReaderLemmas.{word-kind}
use Rattle.crs_rules.proofs.file.words.kind_in.Goals as goal

pub returns-in-Word : goal.returns-in-Word
returns-in-Word c =
    c.kind_named.ensures ∙ ap kind_named c.raw.ensures
    ∙ word-kind (item_at c.args.items.now c.args.id) (sym c.kind.ensures ∙ c.in-Word.is)

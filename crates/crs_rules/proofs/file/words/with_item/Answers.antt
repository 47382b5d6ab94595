use Rattle.std.proofs.Common.{◌∙◌, ap, sym}
use Rattle.crs_value.specs.inner.Prelude.{item_at}
use Rattle.crs_rules.specs.Statements.{with_word}
use Rattle.crs_rules.proofs.ReaderLemmas.{word-item}
use Rattle.crs_rules.proofs.file.words.with_item.Goals as goal

pub returns-in-Word : goal.returns-in-Word
returns-in-Word c =
    c.with_word.ensures ∙ ap (λ raw. with_word raw c.args.uncounted) c.raw.ensures
    ∙ word-item (item_at c.args.items.now c.args.id) c.args.uncounted (sym c.kind.ensures ∙ c.in-Word.is)

use Rattle.std.proofs.Common.{◌∙◌, ap}
use Rattle.crs_text.specs.inner.KeywordTable.{first_among}
use Rattle.crs_text.proofs.words.KeywordLemmas.{keyword_of-table}
use Rattle.crs_text.proofs.keyword.Keyword.of.Goals as goal

pub returns : goal.returns
returns c =
    c.first_among.ensures ∙ ap (λ ss. first_among ss c.args.word.now) c.of_length.ensures ∙ keyword_of-table c.args.word.now

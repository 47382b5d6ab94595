use Rattle.std.proofs.lemmas.Result.{MatchResult-weaker}
use Rattle.crs_canon.proofs.content.append_number.Goals as goal

pub returns : goal.returns
returns c =
    MatchResult-weaker c.write.result c.write.ensures.spelled
    (λ x e. record { spelling = e.spelling; appended = e.appended; is_spelling = (e.is_plain, e.denotes) }) (λ x e. e)

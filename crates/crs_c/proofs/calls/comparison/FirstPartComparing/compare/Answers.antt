use Rattle.std.proofs.lemmas.Result.{IfOk-weaker}
use Rattle.crs_same.specs.inner.Prelude.{SameCrs}
use Rattle.crs_c.proofs.WordLemmas.{no-words}
use Rattle.crs_c.proofs.calls.comparison.FirstPartComparing.compare.Goals as goal

pub returns : goal.returns
returns c =
    let found = c.first_part.result in
    let none = no-words found (SameCrs c.args.self.0 c.args.a.now c.args.b.now) c.paths_have_words.ensures
    c.first_part.ensures.step c.first_part.ensures.same in
    IfOk-weaker c.words_of.result _ _
    (λ words is. (found, c.first_part.ensures.first, c.first_part.ensures.same, is, rw is none)) c.words_of.ensures

use Rattle.std.proofs.Common.{[], codes, refl, ◌∷◌}
use Rattle.clap.proofs.OnLiterals.{clap_on_literals}
use Rattle.crs_desk.proofs.AskedLemmas.{explain, literal, plainly_given, words_asked}
use Rattle.crs_desk.proofs.laws.line.explain_takes_texts_and_options.Goals as goal

pub returns : goal.returns
unfolding clap_on_literals
returns c = record {
  alone = λ program. refl;
  one = λ program first one. words_asked explain program (plainly_given first one ∷ []) refl;
  two = λ program first second one other. words_asked explain program (plainly_given first one ∷ plainly_given second other ∷ []) refl;
  level = λ program level usual. words_asked explain program (literal (codes "--level") ∷ plainly_given level usual ∷ []) refl;
  before = λ program level first second usual one other.
      words_asked explain program (literal (codes "--level") ∷ plainly_given level usual ∷ plainly_given first one ∷ plainly_given second other ∷ []) refl;
  after = λ program level first second usual one other.
      words_asked explain program (plainly_given first one ∷ plainly_given second other ∷ literal (codes "--level") ∷ plainly_given level usual ∷ []) refl;
  json = λ program. refl;
  once = λ program word. refl;
  twice = λ program one other. refl;
}

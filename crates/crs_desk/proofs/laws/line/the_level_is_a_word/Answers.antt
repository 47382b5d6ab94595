use Rattle.std.proofs.Common.{[], codes, refl, ◌∷◌}
use Rattle.clap.proofs.OnLiterals.{clap_on_literals}
use Rattle.crs_desk.proofs.AskedLemmas.{canon, group, literal, plainly_given, words_asked}
use Rattle.crs_desk.proofs.laws.line.the_level_is_a_word.Goals as goal

pub returns : goal.returns
unfolding clap_on_literals
returns c = record {
  canon = λ program level usual. words_asked canon program (literal (codes "--level") ∷ plainly_given level usual ∷ []) refl;
  group = λ program level usual. words_asked group program (literal (codes "--level") ∷ plainly_given level usual ∷ []) refl;
  usual_canon = λ program. refl;
  usual_group = λ program. refl;
  check = λ program level. refl;
  once = λ program one other. refl;
  whole = λ program. refl;
}

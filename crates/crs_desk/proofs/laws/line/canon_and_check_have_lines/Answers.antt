use Rattle.std.proofs.Common.{[], codes, refl, ◌∷◌}
use Rattle.clap.proofs.OnLiterals.{clap_on_literals}
use Rattle.crs_desk.proofs.AskedLemmas.{canon, literal, plainly_given, words_asked}
use Rattle.crs_desk.proofs.laws.line.canon_and_check_have_lines.Goals as goal

pub returns : goal.returns
unfolding clap_on_literals
returns c = record {
  canon = λ program. refl;
  before = λ program level usual. words_asked canon program (literal (codes "--lines") ∷ literal (codes "--level") ∷ plainly_given level usual ∷ []) refl;
  after = λ program level usual. words_asked canon program (literal (codes "--level") ∷ plainly_given level usual ∷ literal (codes "--lines") ∷ []) refl;
  check = λ program. refl;
  check_alone = λ program. refl;
  canon_twice = λ program. refl;
  check_twice = λ program. refl;
  bare = λ program value. refl;
  group = λ program. refl;
}

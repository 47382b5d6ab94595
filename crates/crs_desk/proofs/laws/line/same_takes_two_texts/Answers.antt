use Rattle.std.proofs.Common.{[], codes, refl, ◌∷◌}
use Rattle.clap.proofs.OnLiterals.{clap_on_literals}
use Rattle.crs_desk.proofs.AskedLemmas.{literal, plainly_given, same, words_asked}
use Rattle.crs_desk.proofs.SameLemmas.{flag_refused, one_text}
use Rattle.crs_desk.proofs.laws.line.same_takes_two_texts.Goals as goal

pub returns : goal.returns
unfolding clap_on_literals
returns c = record {
  plain = λ program first second one other. words_asked same program (plainly_given first one ∷ plainly_given second other ∷ []) refl;
  before = λ program level first second usual one other.
      words_asked same program (literal (codes "--level") ∷ plainly_given level usual ∷ plainly_given first one ∷ plainly_given second other ∷ []) refl;
  after = λ program level first second usual one other.
      words_asked same program (plainly_given first one ∷ plainly_given second other ∷ literal (codes "--level") ∷ plainly_given level usual ∷ []) refl;
  none = λ program. refl;
  one = one_text;
  flag = flag_refused;
}

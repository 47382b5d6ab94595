use Rattle.std.proofs.Common.{[], codes, refl, ◌∷◌}
use Rattle.clap.proofs.OnLiterals.{clap_on_literals}
use Rattle.crs_desk.proofs.AskedLemmas.{canon, check, digest, group, literal, plainly_given, same, words_asked}
use Rattle.crs_desk.proofs.laws.line.digests_names_and_objects.Goals as goal

pub returns : goal.returns
unfolding clap_on_literals
returns c = record {
  digest = λ program. refl;
  level = λ program level usual. words_asked digest program (literal (codes "--lines") ∷ literal (codes "--level") ∷ plainly_given level usual ∷ []) refl;
  rules = λ program file name usual one. words_asked digest program (literal (codes "--rules") ∷ plainly_given file usual ∷ plainly_given name one ∷ []) refl;
  named_digest = λ program name usual. words_asked digest program (literal (codes "-H") ∷ plainly_given name usual ∷ []) refl;
  named_canon = λ program name usual. words_asked canon program (literal (codes "--with-name") ∷ plainly_given name usual ∷ []) refl;
  named_check = λ program name usual. words_asked check program (literal (codes "-H") ∷ plainly_given name usual ∷ []) refl;
  named_group = λ program name usual. words_asked group program (literal (codes "-H") ∷ plainly_given name usual ∷ []) refl;
  named_input = λ program. refl;
  check = λ program. refl;
  same = λ program first second one other.
      words_asked same program (literal (codes "--json") ∷ plainly_given first one ∷ plainly_given second other ∷ []) refl;
}
